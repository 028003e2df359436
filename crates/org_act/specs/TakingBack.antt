-- Taking back the change that an act made.
use Rattle.std.specs.Prelude.{◌≡◌, ◌≢◌, ℕ, List, length, take, drop, Bool, ◌&&◌, nat_le, nat_eq, bytes_eq, if◌then◌else◌, Result, Ok, Err, string_bytes}
use Rattle.std.specs.List.{starts_with}
use Rattle.org_act.specs.Changes.{LiesIn, with_change}
use Rattle.org_act.specs.declared.act.Refusal.{Refusal}
use Rattle.org_act.specs.declared.act.Refusal.TheVariants as refusal
use Rattle.org_act.specs.declared.taking_back.TakingBack.{TakingBack}
use Rattle.org_store.specs.declared.change.OwnedChange.{OwnedChange}
use Rattle.org_text.specs.Replace.{replace}

-- a change that was made: where, what it took away and put in, and the text that it left
pub record Made : Type 0 where
  pub at : ℕ
  pub deleted : List ℕ
  pub inserted : List ℕ
  pub left : List ℕ

-- a piece stands at a place of a text
abbrev pub stands_at : List ℕ → ℕ → List ℕ → Bool
stands_at text at piece = nat_le at (length text) && starts_with nat_eq (drop at text) piece

-- a text is the one that was left, and what was put in stands there
unfoldable pub goes_back : Made → List ℕ → Bool
goes_back m text = bytes_eq text m.left && stands_at text m.at m.inserted

-- the text from before the change, if this text is the one that it left
unfoldable pub text_before : Made → List ℕ → Result (List ℕ) Refusal
text_before m text = if goes_back m text then Ok (replace text m.at (length m.inserted) m.deleted) else Err refusal.Edited

-- what an act takes back
abbrev pub made : TakingBack → Made
made t = record { at = t.at; deleted = t.deleted.now; inserted = t.inserted.now; left = t.left.now }

-- the text that an act makes of another, or its refusal
abbrev pub taken_back : TakingBack → List ℕ → Result (List ℕ) Refusal
taken_back t text = text_before (made t) text

-- a change as it was made in a text
abbrev pub made_in : List ℕ → OwnedChange → Made
made_in text c = record { at = c.at; deleted = take c.del (drop c.at text); inserted = string_bytes c.ins; left = with_change text c }

-- an act takes what was left back to a text, and is refused for any other
pub record IsTakenBack (text left : List ℕ) (t : TakingBack) : Type 0 where
  pub back : taken_back t left ≡ Ok text
  pub others : (other : List ℕ) → other ≢ left → taken_back t other ≡ Err refusal.Edited

-- an act of a change that was made in a text takes what it left back to that text, byte for byte, and no other text
abbrev pub ActsAreTakenBack : Type 0
ActsAreTakenBack = (text : List ℕ) (c : OwnedChange) (t : TakingBack) → LiesIn text c → made t ≡ made_in text c → IsTakenBack text (with_change text c) t
