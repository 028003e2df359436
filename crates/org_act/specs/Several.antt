-- An act on several headings of one text, on one after the other.
use Rattle.std.specs.Prelude.{ℕ, if◌then◌else◌, List, [], ◌∷◌, Result, Ok, Err}
use Rattle.std.specs.Str.{is_utf8}
use Rattle.org_act.specs.declared.act.Refusal.{Refusal}
use Rattle.org_act.specs.declared.act.Refusal.TheVariants as refusal

-- what an act made, if it is text
abbrev pub if_text : Result (List ℕ) Refusal → Result (List ℕ) Refusal
if_text (Ok made) = if is_utf8 made then Ok made else Err refusal.Misread
if_text (Err why) = Err why

-- what comes of the text that an act made, unless it was refused
abbrev pub on_text : (List ℕ → Result (List ℕ) Refusal) → Result (List ℕ) Refusal → Result (List ℕ) Refusal
on_text next (Ok text) = next text
on_text next (Err why) = Err why

-- the text that an act makes by the headings on some lines, on each of the text that it left before; where it is refused for one
-- of them, none is done
abbrev pub amended_in_turn : (ℕ → List ℕ → Result (List ℕ) Refusal) → List ℕ → List ℕ → Result (List ℕ) Refusal
amended_in_turn amended_on [] text = Ok text
amended_in_turn amended_on (line ∷ lines) text = on_text (amended_in_turn amended_on lines) (if_text (amended_on line text))
