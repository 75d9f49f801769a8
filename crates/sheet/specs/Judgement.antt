-- The refusals of the rules in the three parts that are judged one after the other, and the lent line afterwards.
use Rattle.std.specs.Prelude.{◌≡◌, refl, List, ◌++◌, ℕ, Option, Some, None, Ok, Err, take, drop}
use Rattle.subdivision.specs.Results.{Verdict, passed, refused}
use Rattle.subdivision.specs.Lists.{put}
use Rattle.subdivision.specs.Sheet.{Sheet}
use Rattle.subdivision.specs.ZoneLine.{zone_line}
use Rattle.subdivision.specs.Refusals.{Refusal, rule_refusals}

-- the line that a judgement leaves: the line of zones written over the front of what was lent where the sheet passes, and what was lent where it is refused
abbrev pub line_left : Sheet → Verdict → List ℕ → List ℕ
line_left s (Ok u) lent = put (zone_line s) lent
line_left s (Err e) lent = lent

-- the lent line after a look for the lowest zone that the line of zones does not place: written over where it places all
abbrev pub line_after : Sheet → Option ℕ → List ℕ → List ℕ
line_after s None lent = put (zone_line s) lent
line_after s (Some z) lent = lent

-- what was found at fault, if anything was, is refused with this number
abbrev pub refuse : ℕ → Option ℕ → Verdict
refuse number None = passed
refuse number (Some item) = refused number item

module _ (s : Sheet) where
  -- refusals 4 to 8: each record by itself, and repeated points
  abbrev pub record_refusals : List Refusal
  record_refusals = take 5 (rule_refusals s)

  -- refusals 9 to 11: how the edges meet
  abbrev pub drawing_refusals : List Refusal
  drawing_refusals = take 3 (drop 5 (rule_refusals s))

  -- refusals 12 and 13: the zones
  abbrev pub zone_refusals : List Refusal
  zone_refusals = drop 8 (rule_refusals s)

  -- the three parts, one after the other, are the refusals of the rules
  pub parts_of_rules : rule_refusals s ≡ record_refusals ++ (drawing_refusals ++ zone_refusals)
  parts_of_rules = refl
