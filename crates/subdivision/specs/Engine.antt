-- What an engine that searches an accepted sheet must answer: the third demand, and document 01, "Index and descent", third and fourth paragraph. Points are shifted.
use Rattle.std.specs.Prelude.{◌≡◌, List, ℕ, ◌*◌, ◌-◌, ◌<◌, ◌≤◌, Ok, length, get_or, take}
use Rattle.subdivision.specs.Results.{Reply, Search, refused, reply_of, examined_of, probes_of}
use Rattle.subdivision.specs.Layout.{index_need}
use Rattle.subdivision.specs.Lists.{put}
use Rattle.subdivision.specs.Dyadic.{bits}
use Rattle.subdivision.specs.Sheet.{Sheet, edge_count, zone_count}
use Rattle.subdivision.specs.Accepted.{Accepted}
use Rattle.subdivision.specs.Reading.{plain_reading}
use Rattle.subdivision.specs.Placed.{OnSheet}
use Rattle.subdivision.specs.Index.{index_words}
use Rattle.subdivision.specs.Descent.{Descent, answered, published_descent}

-- no entry is there twice
abbrev pub NoneTwice : List ℕ → Type 0
NoneTwice l = (p q : ℕ) → p < q → q < length l → get_or l p 0 ≡ get_or l q 0 → ⊥

module _ (s : Sheet) where
  -- the first 3n + m + 1 words of an index are those that opening writes; words past them may be anything
  abbrev pub HoldsIndex : List ℕ → Type 0
  HoldsIndex index = take (index_need (zone_count s) (edge_count s)) index ≡ index_words s

  -- what every engine must answer for a point, over a lent trail
  pub record EngineAnswers (x y : ℕ) (lent : List ℕ) (reply : Reply) (examined : ℕ) (trail : List ℕ) : Type 0 where
    -- the plain reading's answer, and no refusal
    pub plain : reply ≡ Ok (plain_reading s x y)
    pub unrefused : (number item : ℕ) → reply ≡ refused number item → ⊥
    -- where the published descent on the tables alone ends
    pub last : Descent
    pub published : published_descent s x y ≡ answered (plain_reading s x y) last
    -- the edges that it examines, in its order, counted, and written over the front of the trail, where nothing else changes
    pub counted : examined ≡ length last.trail
    pub listed : trail ≡ put last.trail lent
    -- none twice, and at most bits(n-1)
    pub none_twice : NoneTwice last.trail
    pub bounded : examined ≤ bits (zone_count s - 1)

  -- the counts of a quick search are bounded: at most bits(n-1) edges examined, and at most bits(n-1) x bits(m) probes
  abbrev pub CountsBounded : Search → Type 0
  CountsBounded found =
      (examined_of found ≤ bits (zone_count s - 1)) × (probes_of found ≤ bits (zone_count s - 1) * bits (edge_count s))

  -- what the quick search must answer: what every engine must, and that descent's probes; its counts are bounded
  pub record QuickAnswers (x y : ℕ) (lent : List ℕ) (found : Search) (trail : List ℕ) : Type 0 where
    pub engine : EngineAnswers x y lent (reply_of found) (examined_of found) trail
    pub probed : probes_of found ≡ engine.last.probes
    pub bounded : CountsBounded found

  -- the third demand: on an accepted sheet, with an index that holds what opening writes and a trail with room, whatever the trail held,
  -- the quick search of every point on the sheet answers so
  abbrev pub ThirdDemand : List ℕ → ℕ → ℕ → List ℕ → Search → List ℕ → Type 0
  ThirdDemand index x y lent found trail =
      Accepted s → HoldsIndex index → OnSheet s x y → bits (zone_count s - 1) ≤ length lent → QuickAnswers x y lent found trail
