-- The tags of a heading that loses some and gets others (Org manual 9.6, "Setting Tags").
use Rattle.std.specs.Prelude.{ℕ, Bool, false, ◌||◌, not, if◌then◌else◌, List, [], ◌∷◌, ◌++◌, map, bytes_eq, ◌≡◌, OnOk, Result}
use Rattle.std.specs.Borrow.{Bor}
use Rattle.org_amend.specs.declared.head_change.HeadChange.{HeadChange}
use Rattle.org_amend.specs.declared.head_change.HeadChange.TheVariants.{NoKeyword, Priority, Tags}
use Rattle.org_amend.specs.declared.wanted_tags.TagChange.{TagChange}
use Rattle.org_base.specs.Results.{lent_in}
use Rattle.org_base.specs.Spans.{bytes_in}
use Rattle.org_base.specs.declared.span.Span.{Span}

-- the tag is among tags
abbrev pub has_tag : List (List ℕ) → List ℕ → Bool
has_tag [] tag = false
has_tag (t ∷ ts) tag = bytes_eq t tag || has_tag ts tag

-- the tag, if it is wanted
abbrev pub tag_if : Bool → List ℕ → List (List ℕ)
tag_if wanted tag = if wanted then tag ∷ [] else []

-- those of a heading that stay, where some go
abbrev pub kept_tags : List (List ℕ) → List (List ℕ) → List (List ℕ)
kept_tags removed [] = []
kept_tags removed (t ∷ ts) = tag_if (not (has_tag removed t)) t ++ kept_tags removed ts

-- a tag comes: it doesn't stand there, or goes
abbrev pub is_new : List (List ℕ) → List (List ℕ) → List ℕ → Bool
is_new old removed tag = not (has_tag old tag) || has_tag removed tag

-- those that come
abbrev pub added_tags : List (List ℕ) → List (List ℕ) → List (List ℕ) → List (List ℕ)
added_tags old removed [] = []
added_tags old removed (t ∷ ts) = tag_if (is_new old removed t) t ++ added_tags old removed ts

-- those that stay, and behind them those that come
abbrev pub wanted_tags : List (List ℕ) → List (List ℕ) → List (List ℕ) → List (List ℕ)
wanted_tags removed added old = kept_tags removed old ++ added_tags old removed added

-- the same of a change

abbrev pub wanted_by : TagChange → List (List ℕ) → List (List ℕ)
wanted_by c old = wanted_tags (lent_in c.removed.now) (lent_in c.added.now) old

abbrev pub tags_by : HeadChange → List (List ℕ) → List (List ℕ)
tags_by (Tags c) old = wanted_by c old
tags_by (Priority word) old = old
tags_by NoKeyword old = old

-- those that come stand behind others, unless that is refused
abbrev pub AddsTags : {T E : Type 0} → Result T E → List (List ℕ) → List (List ℕ) → List (List ℕ) → List (Bor (List ℕ)) → List (Bor (List ℕ)) → Type 0
AddsTags result before after old removed added = OnOk result (after ≡ before ++ added_tags old (lent_in removed) (lent_in added))

-- parts of a line
abbrev pub parts_in : List ℕ → List Span → List (List ℕ)
parts_in line spans = map (bytes_in line) spans
