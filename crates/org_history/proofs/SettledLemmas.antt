-- What a history says of the text that a file has.
use Rattle.std.proofs.Common.{◌≡◌, ◌≢◌, ℕ, Bool, true, false, List, ◌++◌, Option, Some, None, refl, sym, ap, ◌∙◌, inl, inr}
use Rattle.std.specs.Prelude.{bytes_eq}
use Rattle.std.specs.Option.{option_and_then}
use Rattle.std.proofs.lemmas.Bool.{cases_Bool}
use Rattle.std.proofs.lemmas.Slice.Eq.{bytes_eq-Decides}
use Rattle.org_history.specs.Bytes.{change_at, change_bytes}
use Rattle.org_history.specs.Changes.{IsOf, Kept, Past, text_after, text_before}
use Rattle.org_history.specs.Laws.{IsKept}
use Rattle.org_history.specs.Settled.{IsSettled, older_of, settled}
use Rattle.org_history.proofs.AgainLemmas.{change_again}
use Rattle.org_history.proofs.BeforeLemmas.{taken_back}

same : (xs : List ℕ) → bytes_eq xs xs ≡ true
same xs = (bytes_eq-Decides xs xs).1 refl

differs : (xs ys : List ℕ) → ys ≢ xs → bytes_eq xs ys ≡ false
differs xs ys apart = elim (cases_Bool (bytes_eq xs ys)) [
  | inl found ↦ absurd (apart (sym ((bytes_eq-Decides xs ys).0 found)))
  | inr other ↦ other
]

-- the newest change left this text
pub settled_made : (p : Past) (text : List ℕ) → bytes_eq p.left text ≡ true → settled p text ≡ Some p.changes
unfolding settled
settled_made p text e = rw e refl

-- it didn't
pub settled_else : (p : Past) (text : List ℕ) (r : Option (Kept × List ℕ)) → bytes_eq p.left text ≡ false → change_at p.changes ≡ r →
    settled p text ≡ option_and_then (λ newest. older_of (text_before p.left newest.0) text newest.1) r
unfolding settled
settled_else p text r e is = rw (e, is) refl

older_is : (before text older : List ℕ) → before ≡ text → older_of (Some before) text older ≡ Some older
older_is before text older e = rw ((bytes_eq-Decides before text).1 e) refl

pub newest_may_fail : (text path : List ℕ) (k : Kept) (older : List ℕ) → IsOf text k → IsKept k →
    IsSettled text k older (record { path = path; left = text_after text k; changes = change_bytes k ++ older })
newest_may_fail text path k older of fits =
    let p : Past = record { path = path; left = text_after text k; changes = change_bytes k ++ older } in
    record {
      made = settled_made p p.left (same p.left);
      not_made = λ apart. settled_else p text (Some (k, older)) (differs p.left text apart) (change_again k older fits) ∙ ap (λ (b : Option (List ℕ)). older_of b text older) (taken_back text k of) ∙ older_is text text older refl;
    }
