-- Taking an act back.
use Rattle.std.proofs.Common.{◌≡◌, ◌≢◌, ◌∙◌, ◌+◌, ◌≤◌, ℕ, true, false, inl, inr, Bool, ◌&&◌, List, ◌++◌, append_assoc, arith, length, take, drop, refl, sym, ap, subst}
use Rattle.std.specs.Prelude.{Ok, Err, nat_eq, nat_le, bytes_eq, string_bytes}
use Rattle.std.specs.List.{starts_with}
use Rattle.std.proofs.lemmas.Bool.{cases_Bool, le-leb, leb-true}
use Rattle.std.proofs.lemmas.Bool.Decides.{Decides-eqb}
use Rattle.std.proofs.lemmas.List.{take_at, drop_at, drop-drop, length-append, length-drop, length-take, take-append-drop}
use Rattle.std.proofs.lemmas.Slice.Eq.{bytes_eq-Decides, starts_is}
use Rattle.org_act.specs.Changes.{LiesIn, with_change}
use Rattle.org_act.specs.TakingBack.{ActsAreTakenBack, Made, goes_back, made, made_in, stands_at, text_before}
use Rattle.org_act.specs.declared.act.Refusal.TheVariants as refusal
use Rattle.org_store.specs.declared.change.OwnedChange.{OwnedChange}
use Rattle.org_text.specs.Replace.{replace}

and_parts : (a b : Bool) → (a && b) ≡ true → (a ≡ true) × (b ≡ true)
and_parts true b e = (refl, e)
and_parts false b e = absurd cc

-- a piece between two others stands at its place
pub stands_between : (front piece rest : List ℕ) → stands_at ((front ++ piece) ++ rest) (length front) piece ≡ true
stands_between front piece rest =
    let text : (front ++ piece) ++ rest ≡ front ++ (piece ++ rest) = append_assoc front piece rest in
    let within : nat_le (length front) (length ((front ++ piece) ++ rest)) ≡ true = le-leb _ _ (omega (arith, length-append front piece, length-append (front ++ piece) rest)) in
    let behind : drop (length front) ((front ++ piece) ++ rest) ≡ piece ++ rest = ap (drop (length front)) text ∙ drop_at front (piece ++ rest) (length front) refl in
    let starts : starts_with nat_eq (drop (length front) ((front ++ piece) ++ rest)) piece ≡ true = (starts_is Decides-eqb (drop (length front) ((front ++ piece) ++ rest)) piece _ refl).1 rest behind in
    rw (within, starts) refl

-- where it does, it ends within the text
pub stands_within : (text : List ℕ) (at : ℕ) (piece : List ℕ) → stands_at text at piece ≡ true → at + length piece ≤ length text
stands_within text at piece e =
    let both = and_parts (nat_le at (length text)) (starts_with nat_eq (drop at text) piece) e in
    let le : at ≤ length text = leb-true at (length text) both.0 in
    let is : drop at text ≡ piece ++ drop (length piece) (drop at text) = (starts_is Decides-eqb (drop at text) piece _ refl).0 both.1 in
    omega (arith, le, length-drop at text, ap (λ (x : List ℕ). length x) is, length-append piece (drop (length piece) (drop at text)))

-- a text is made of three pieces of it
pieces_are : (text : List ℕ) (at n : ℕ) → (take at text ++ take n (drop at text)) ++ drop (at + n) text ≡ text
pieces_are text at n =
    append_assoc (take at text) (take n (drop at text)) (drop (at + n) text)
    ∙ ap (λ (x : List ℕ). take at text ++ (take n (drop at text) ++ x)) (sym (drop-drop n at text))
    ∙ ap (λ (x : List ℕ). take at text ++ x) (take-append-drop n (drop at text))
    ∙ take-append-drop at text

-- what taking back gives, by whether the text is the one that was left

pub text_goes : (m : Made) (text : List ℕ) → goes_back m text ≡ true → text_before m text ≡ Ok (replace text m.at (length m.inserted) m.deleted)
unfolding text_before
text_goes m text e = rw e refl

pub text_stays : (m : Made) (text : List ℕ) → goes_back m text ≡ false → text_before m text ≡ Err refusal.Edited
unfolding text_before
text_stays m text e = rw e refl

-- a text that goes back has what was put in
pub goes_within : (m : Made) (text : List ℕ) → goes_back m text ≡ true → m.at + length m.inserted ≤ length text
unfolding goes_back
goes_within m text e = stands_within text m.at m.inserted (and_parts (bytes_eq text m.left) (stands_at text m.at m.inserted) e).1

-- where the text is the one that was left, what was put in has to stand there
pub goes_if : (m : Made) (text : List ℕ) → bytes_eq text m.left ≡ true → goes_back m text ≡ stands_at text m.at m.inserted
unfolding goes_back
goes_if m text e = rw e refl

pub goes_not : (m : Made) (text : List ℕ) → bytes_eq text m.left ≡ false → goes_back m text ≡ false
unfolding goes_back
goes_not m text e = rw e refl

-- any other text is refused
other_stays : (m : Made) (text : List ℕ) → text ≢ m.left → goes_back m text ≡ false
unfolding goes_back
other_stays m text other = elim (cases_Bool (bytes_eq text m.left)) [
  | inl found ↦ absurd (other ((bytes_eq-Decides text m.left).0 found))
  | inr apart ↦ rw apart refl
]

-- the text that was left goes back
left_goes : (text : List ℕ) (c : OwnedChange) → LiesIn text c → goes_back (made_in text c) (with_change text c) ≡ true
unfolding goes_back
left_goes text c within =
    let front = take c.at text in
    let ins = string_bytes c.ins in
    let left = with_change text c in
    let len : length front ≡ c.at = omega (arith, length-take c.at text, within) in
    let same : bytes_eq left left ≡ true = (bytes_eq-Decides left left).1 refl in
    let stands : stands_at left c.at ins ≡ true = subst (λ (at : ℕ). stands_at left at ins ≡ true) len (stands_between front ins (drop (c.at + c.del) text)) in
    rw (same, stands) refl

-- to the text in which the change was made
goes_to : (text : List ℕ) (c : OwnedChange) → LiesIn text c →
    replace (with_change text c) c.at (length (string_bytes c.ins)) (take c.del (drop c.at text)) ≡ text
goes_to text c within =
    let front = take c.at text in
    let ins = string_bytes c.ins in
    let rest = drop (c.at + c.del) text in
    let left = with_change text c in
    let len : length front ≡ c.at = omega (arith, length-take c.at text, within) in
    let before : take c.at left ≡ front = ap (take c.at) (append_assoc front ins rest) ∙ take_at front (ins ++ rest) c.at len in
    let behind : drop (c.at + length ins) left ≡ rest = drop_at (front ++ ins) rest (c.at + length ins) (omega (arith, length-append front ins, len)) in
    rw (before, behind) (pieces_are text c.at c.del)

pub acts_are_taken_back : ActsAreTakenBack
acts_are_taken_back text c t within is = record {
  back = ap (λ (m : Made). text_before m (with_change text c)) is ∙ text_goes (made_in text c) (with_change text c) (left_goes text c within) ∙ ap Ok (goes_to text c within);
  others = λ other apart. text_stays (made t) other (other_stays (made t) other (λ e. apart (e ∙ ap (λ (m : Made). m.left) is)));
}
