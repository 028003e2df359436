-- The text before a change.
use Rattle.std.proofs.Common.{◌≡◌, ℕ, ◌+◌, ◌<◌, ◌≤◌, Bool, true, false, List, ◌++◌, length, take, drop, Option, Some, None, refl, sym, ap, ◌∙◌, append_assoc, arith}
use Rattle.std.specs.Prelude.{bytes_eq, nat_lt}
use Rattle.std.proofs.lemmas.Bool.{le-ltb, lt-ltb}
use Rattle.std.proofs.lemmas.List.{take_at, drop_at, drop-drop, length-append, length-take, take-append-drop}
use Rattle.std.proofs.lemmas.Slice.Eq.{bytes_eq-Decides}
use Rattle.org_history.specs.Changes.{IsOf, Kept, put_back, text_after, text_before}

-- what stands at the front of what is behind is found there
found : (front rest inserted deleted : List ℕ) → put_back front (inserted ++ rest) inserted deleted ≡ Some ((front ++ deleted) ++ rest)
found front rest inserted deleted =
    let same : bytes_eq (take (length inserted) (inserted ++ rest)) inserted ≡ true = ap (λ (x : List ℕ). bytes_eq x inserted) (take_at inserted rest (length inserted) refl) ∙ (bytes_eq-Decides inserted inserted).1 refl in
    rw (same, drop_at inserted rest (length inserted) refl) refl

-- a text is made of three pieces of it
pieces_are : (text : List ℕ) (at n : ℕ) → (take at text ++ take n (drop at text)) ++ drop (at + n) text ≡ text
pieces_are text at n =
    append_assoc (take at text) (take n (drop at text)) (drop (at + n) text)
    ∙ ap (λ (x : List ℕ). take at text ++ (take n (drop at text) ++ x)) (sym (drop-drop n at text))
    ∙ ap (λ (x : List ℕ). take at text ++ x) (take-append-drop n (drop at text))
    ∙ take-append-drop at text

pub taken_back : (text : List ℕ) (k : Kept) → IsOf text k → text_before (text_after text k) k ≡ Some text
unfolding text_before
taken_back text k of =
    let front = take k.at text in
    let rest = drop (k.at + length k.deleted) text in
    let left = (front ++ k.inserted) ++ rest in
    let grouped : left ≡ front ++ (k.inserted ++ rest) = append_assoc front k.inserted rest in
    let len : length front ≡ k.at = omega (arith, length-take k.at text, of.within) in
    let long : nat_lt (length left) k.at ≡ false = le-ltb _ _ (omega (arith, len, length-append front k.inserted, length-append (front ++ k.inserted) rest)) in
    let before : take k.at left ≡ front = ap (take k.at) grouped ∙ take_at front (k.inserted ++ rest) k.at len in
    let behind : drop k.at left ≡ k.inserted ++ rest = ap (drop k.at) grouped ∙ drop_at front (k.inserted ++ rest) k.at len in
    let whole : (front ++ k.deleted) ++ rest ≡ text = ap (λ (x : List ℕ). (front ++ x) ++ rest) (sym of.stands) ∙ pieces_are text k.at (length k.deleted) in
    rw (long, before, behind) (found front rest k.inserted k.deleted ∙ ap Some whole)

pub short : (left : List ℕ) (k : Kept) → length left < k.at → text_before left k ≡ None
unfolding text_before
short left k lt = rw (lt-ltb _ _ lt) refl

pub absent : (left : List ℕ) (k : Kept) → k.at ≤ length left → bytes_eq (take (length k.inserted) (drop k.at left)) k.inserted ≡ false → text_before left k ≡ None
unfolding text_before
absent left k le apart = rw (le-ltb _ _ le, apart) refl

pub there : (left : List ℕ) (k : Kept) → k.at ≤ length left → bytes_eq (take (length k.inserted) (drop k.at left)) k.inserted ≡ true →
    text_before left k ≡ Some ((take k.at left ++ k.deleted) ++ drop (length k.inserted) (drop k.at left))
unfolding text_before
there left k le same = rw (le-ltb _ _ le, same) refl
