-- What is read: the section that begins with the line, if the line is a heading's.
use Rattle.std.proofs.Common.{◌≡◌, ℕ, ◌<◌, ◌≤◌, Bool, false, inl, inr, None, Some, List, length, get_or, refl, arith}
use Rattle.std.specs.Prelude.{Err, Ok, OnOk, Result}
use Rattle.std.proofs.lemmas.Bool.{cases_Bool}
use Rattle.org_base.specs.Counts.{Counts}
use Rattle.org_base.specs.Results.{IfRefused}
use Rattle.org_base.specs.declared.fault.Fault.{Fault}
use Rattle.org_complete.specs.Reading.{HasReadOne, NoHeading, Own, ReadsOwn, with_one_read}
use Rattle.org_store.specs.Begun.{IsBegunBy, has_heading}
use Rattle.org_store.specs.Counts.{have_read}
use Rattle.org_store.specs.File.{FileView, marked, unread_at}

unread_few : (marks : List Bool) (place : ℕ) → unread_at marks place ≤ 1
unread_few marks place = elim (cases_Bool (get_or marks place false)) [ inl e ↦ rw e (omega arith) | inr e ↦ rw e (omega arith) ]

-- none was read
pub none_read : (file : FileView) (counts : Counts) → HasReadOne file file counts counts
none_read file counts = record { place = None; reads = 0; within = tt; few = omega arith; file = refl; counts = refl }

-- one was read
pub one_read : (old new : FileView) (place : ℕ) (before after : Counts) → place < length old.marks → new ≡ with_one_read (Some place) old → after ≡ have_read (unread_at old.marks place) before → HasReadOne old new before after
one_read old new place before after within is counts = record { place = Some place; reads = unread_at old.marks place; within = within; few = unread_few old.marks place; file = is; counts = counts }

-- none was, since no heading stands on the line
pub none_own : (line : ℕ) (file : FileView) (counts : Counts) → has_heading file.text line ≡ false → ReadsOwn line file file counts counts
none_own line file counts none = NoHeading none refl refl

own : (line : ℕ) (old new : FileView) (place : ℕ) (before after : Counts) → IsBegunBy old.text line place → new ≡ record old { marks = marked place old.marks } → after ≡ have_read (unread_at old.marks place) before → ReadsOwn line old new before after
own line old new place before after begun is counts = Own (record { place = place; begun = begun; file = is; counts = counts })

-- the section that begins with it was, whatever came of it
pub ok_own : {A : Type 0} (line : ℕ) (old new : FileView) (place : ℕ) (before after : Counts) (r : Result A Fault) → IsBegunBy old.text line place → new ≡ record old { marks = marked place old.marks } → after ≡ have_read (unread_at old.marks place) before → OnOk r (ReadsOwn line old new before after)
ok_own line old new place before after (Ok x) begun is counts = own line old new place before after begun is counts
ok_own line old new place before after (Err f) begun is counts = tt

pub refused_own : {A : Type 0} (line : ℕ) (old new : FileView) (place : ℕ) (before after : Counts) (r : Result A Fault) → IsBegunBy old.text line place → new ≡ record old { marks = marked place old.marks } → after ≡ have_read (unread_at old.marks place) before → IfRefused r (λ _. ReadsOwn line old new before after)
refused_own line old new place before after (Ok x) begun is counts = tt
refused_own line old new place before after (Err f) begun is counts = λ other. own line old new place before after begun is counts
