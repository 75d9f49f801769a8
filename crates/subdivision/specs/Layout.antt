-- The layout of the index: document 01, "Index and descent", first paragraph. Its need and its offsets have their one home here.
use Rattle.std.specs.Prelude.{ℕ, ◌+◌, ◌*◌}

-- the need of an index: 3n + m + 1 words
abbrev pub index_need : ℕ → ℕ → ℕ
index_need n m = 3 * n + m + 1

-- the word that holds the place of zone z
abbrev pub place_word : ℕ → ℕ → ℕ
place_word n z = z

-- the word that holds the zone at place p
abbrev pub zone_word : ℕ → ℕ → ℕ
zone_word n p = n + p

-- the word that holds the start of chain k
abbrev pub start_word : ℕ → ℕ → ℕ
start_word n k = 2 * n + k

-- the word that holds entry t of the chains
abbrev pub entry_word : ℕ → ℕ → ℕ
entry_word n t = 3 * n + 1 + t
