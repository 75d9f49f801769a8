-- When refusal 22 is given, as a statement: document 01, "Why the desk refuses", line 22. What a search over the words of a lent index comes to read, in its order, and what of it is at fault. Points are shifted.
use Rattle.std.specs.Prelude.{◌≡◌, List, ◌⊎◌, ℕ, ◌+◌, ◌/◌, ◌<◌, ◌≤◌, length}
use Rattle.subdivision.specs.declared.Side.TheVariants.{Below, Above}
use Rattle.subdivision.specs.Formula.{Means}
use Rattle.subdivision.specs.Sheet.{Sheet, zone_count, x_of, west_of, above_of, below_of, segment}
use Rattle.subdivision.specs.Lines.{side_at}
use Rattle.subdivision.specs.Placed.{Covers}
use Rattle.subdivision.specs.Faults.{GivenBy, AllKept, search_refusals}
use Rattle.subdivision.specs.Descent.{LookUps, Descent, onward, start, entry_sound, starts_sound, places_sound, turn, index_look_ups}

module _ (s : Sheet) (index : List ℕ) (x y : ℕ) where
  -- the words of the index as look-ups
  abbrev words : LookUps
  words = index_look_ups s index

  -- the states that the descent comes to
  pub data Reached : Descent → Type 0 where
    begun : Reached (start s)
    turned : (d next : Descent) → Reached d → turn s words x y d ≡ onward next → Reached next

  -- the entry in the middle, rounded down
  abbrev pub middle : ℕ → ℕ → ℕ
  middle lo hi = words.entry ((lo + hi) / 2)

  -- the entries of chain k, from lo to before hi, that are left as its probes go
  pub data Left (k : ℕ) : ℕ → ℕ → Type 0 where
    whole : Left k (words.start k) (words.start (k + 1))
    western : (lo hi : ℕ) → Left k lo hi → lo < hi → Means (entry_sound s (middle lo hi)) → x < x_of s (west_of s (middle lo hi)) → Left k lo ((lo + hi) / 2)
    eastern : (lo hi : ℕ) → Left k lo hi → lo < hi → Means (entry_sound s (middle lo hi)) → x_of s (west_of s (middle lo hi)) ≤ x → (Covers s x (middle lo hi) → ⊥)
        → Left k ((lo + hi) / 2 + 1) hi

  -- chain k is to be examined at this state, and its starts keep their bounds
  abbrev pub Opens : Descent → Type 0
  Opens d = ((d.i < d.k) × (d.k ≤ d.j)) × Means (starts_sound s words d.k)

  -- the probes of chain k find edge e: it is sound, and covers x
  abbrev pub Finds : ℕ → ℕ → Type 0
  Finds k e = (lo : ℕ) × (hi : ℕ) × Left k lo hi × ((lo < hi) × ((e ≡ middle lo hi) × (Means (entry_sound s e) × Covers s x e)))

  -- what is at fault at a state
  pub data FaultAt (d : Descent) : Type 0 where
    -- a start > m or above the next start, of a chain to be examined
    start_at_fault : d.i < d.k → d.k ≤ d.j → (Means (starts_sound s words d.k) → ⊥) → FaultAt d
    -- a probed entry that is no edge, or whose record, its vertices included, is at fault under 4, 6 or 7
    entry_at_fault : (lo hi : ℕ) → Opens d → Left d.k lo hi → lo < hi → (Means (entry_sound s (middle lo hi)) → ⊥) → FaultAt d
    -- the probes run out with no covering edge found
    run_out : (lo hi : ℕ) → Opens d → Left d.k lo hi → hi ≤ lo → FaultAt d
    -- on an examined edge, a place >= n, or not place below < k <= place above
    place_at_fault : (e : ℕ) → Opens d → Finds d.k e → (Means (places_sound s words d.k e) → ⊥) → FaultAt d
    -- the step would make i > j
    passing : (e : ℕ) → Opens d → Finds d.k e → Means (places_sound s words d.k e)
        → ((side_at (segment s e) x y ≡ Above) × (d.j < words.place (above_of s e))) ⊎ ((side_at (segment s e) x y ≡ Below) × (words.place (below_of s e) < d.i)) → FaultAt d
    -- at i = j, a zone >= n
    zone_at_fault : d.j ≤ d.i → zone_count s ≤ words.zone d.i → FaultAt d

  -- the search comes to a fault
  abbrev pub ComesToFault : Type 0
  ComesToFault = (d : Descent) × Reached d × FaultAt d

  -- the quick search, over a trail of so many places, gives this refusal: the one of the first of its lines whose fault is there; or 22, where no line's is and it comes to a fault
  abbrev pub SearchRefuses : ℕ → ℕ → ℕ → Type 0
  SearchRefuses places number item =
      GivenBy (search_refusals s (length index) x y places) number item
      ⊎ (AllKept (search_refusals s (length index) x y places) × (ComesToFault × ((number ≡ 22) × (item ≡ 0))))
