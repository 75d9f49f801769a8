-- The limits of document 01, "What a sheet is", as document 02, P5 has them: this file is their one home. What reads them has them as a
-- parameter, so that a sheet can be judged under other limits too.
use Rattle.std.specs.Prelude.{ℕ, ◌+◌, ◌-◌}

-- how much a sheet may hold, and how far a coordinate may lie from 0
pub record Limits : Type 0 where
  pub vertices : ℕ
  pub edges : ℕ
  pub zones : ℕ
  pub reach : ℕ

-- at most 4,096 vertices
abbrev pub max_vertices : ℕ
max_vertices = 4096

-- at most 8,192 edges
abbrev pub max_edges : ℕ
max_edges = 8192

-- 1 to 4,096 zones
abbrev pub max_zones : ℕ
max_zones = 4096

-- a search examines at most so many edges: the bit length of max_zones - 1
abbrev pub max_examined : ℕ
max_examined = 12

-- margins and coordinates lie in -1,000,000,000 to 1,000,000,000
abbrev pub reach : ℕ
reach = 1000000000

-- the limits that every call reads
abbrev pub limits : Limits
limits = record { vertices = max_vertices; edges = max_edges; zones = max_zones; reach = reach }

-- the limits before P5, as document 01 has them
abbrev pub earlier_limits : Limits
earlier_limits = record { vertices = 1024; edges = 2048; zones = 1024; reach = 1000000 }

-- what a program with fixed buffers holds (P5): the counts as they were, and coordinates in the new range
abbrev pub program_limits : Limits
program_limits =
    record { vertices = earlier_limits.vertices; edges = earlier_limits.edges; zones = earlier_limits.zones; reach = reach }

-- limits on the counts alone
abbrev pub count_limits : ℕ → ℕ → ℕ → Limits
count_limits vertices edges zones = record { vertices = vertices; edges = edges; zones = zones; reach = 0 }

-- what a signed 32-bit number is shifted by, so that it is never below 0
abbrev pub origin : ℕ
origin = 2147483648

-- the lowest coordinate under limits, shifted
abbrev pub lowest_under : Limits → ℕ
lowest_under l = origin - l.reach

-- the highest coordinate under limits, shifted
abbrev pub highest_under : Limits → ℕ
highest_under l = origin + l.reach

-- the lowest coordinate, shifted
abbrev pub lowest_coordinate : ℕ
lowest_coordinate = lowest_under limits

-- the highest coordinate, shifted
abbrev pub highest_coordinate : ℕ
highest_coordinate = highest_under limits
