-- The lines after a line.
use Rattle.std.proofs.Common.{◌≡◌, ℕ, ◌+◌, ◌-◌, ◌<◌, ◌≤◌, inl, inr, ◌==◌, List, [], ◌∷◌, length, take, drop, refl, sym, ap, ◌∙◌, arith}
use Rattle.std.proofs.lemmas.Bool.{cases_Bool}
use Rattle.std.proofs.lemmas.List.{drop-drop, drop-take}
use Rattle.std.specs.List.{onto_first}
use Rattle.org_base.specs.declared.span.Span.{Span}
use Rattle.org_lines.specs.Cuts.{lines}
use Rattle.org_lines.proofs.LineLemmas.{range_is, length_range}
use Rattle.org_base.specs.Spans.{bytes_in}

-- a line at the front of a text, and the lines after it
pub record FirstLine (t l : List ℕ) (ls : List (List ℕ)) : Type 0 where
  pub some : 0 < length l
  pub within : length l ≤ length t
  pub behind : lines (drop (length l) t) ≡ ls

onto_case : (b : ℕ) (bs l : List ℕ) (ls ms : List (List ℕ)) → lines bs ≡ ms → onto_first b ms ≡ l ∷ ls → ((m : List ℕ) (more : List (List ℕ)) → lines bs ≡ m ∷ more → FirstLine bs m more) → FirstLine (b ∷ bs) l ls
onto_case b bs l ls [] e h again =
    let front : l ≡ b ∷ [] = cc in
    let rest : ls ≡ [] = cc in
    rw (front, rest) (record { some = omega arith; within = omega arith; behind = e })
onto_case b bs l ls (m ∷ more) e h again =
    let front : l ≡ b ∷ m = cc in
    let rest : ls ≡ more = cc in
    let before = again m more e in
    rw (front, rest) (record { some = omega arith; within = omega (arith, before.within); behind = before.behind })

pub first_line : (t l : List ℕ) (ls : List (List ℕ)) → lines t ≡ l ∷ ls → FirstLine t l ls
first_line [] l ls h = absurd cc
first_line (b ∷ bs) l ls h = elim (cases_Bool (b == 10)) [
  | inl e ↦
      let is : (b ∷ []) ∷ lines bs ≡ l ∷ ls = rw e at h in
      let front : l ≡ b ∷ [] = cc in
      let rest : ls ≡ lines bs = cc in
      rw (front, rest) (record { some = omega arith; within = omega arith; behind = refl })
  | inr e ↦ onto_case b bs l ls (lines bs) refl (let is : onto_first b (lines bs) ≡ l ∷ ls = rw e at h in is) (λ m more k. first_line bs m more k)
]

-- a part of a text without its first bytes
pub bytes_behind : (t : List ℕ) (part : Span) (n : ℕ) → n ≤ part.len → drop n (bytes_in t part) ≡ bytes_in t (record { at = part.at + n; len = part.len - n })
bytes_behind t part n short =
    let sum : part.len ≡ n + (part.len - n) = omega (arith, short) in
    let front : bytes_in t part ≡ take (n + (part.len - n)) (drop part.at t) = range_is t part.at part.len ∙ ap (λ k. take k (drop part.at t)) sum in
    ap (drop n) front ∙ drop-take n (part.len - n) (drop part.at t) ∙ ap (take (part.len - n)) (drop-drop n part.at t) ∙ sym (range_is t (part.at + n) (part.len - n))

-- the part of a text after the first line of another part
pub record PartBehind (t l : List ℕ) (ls : List (List ℕ)) (part : Span) : Type 0 where
  pub within : length l ≤ part.len
  pub behind : lines (bytes_in t (record { at = part.at + length l; len = part.len - length l })) ≡ ls

pub part_behind : (t l : List ℕ) (ls : List (List ℕ)) (part : Span) → part.at + part.len ≤ length t → lines (bytes_in t part) ≡ l ∷ ls → PartBehind t l ls part
part_behind t l ls part inside h =
    let first = first_line (bytes_in t part) l ls h in
    let count = length_range t part.at part.len inside in
    let n = length l in
    let short : n ≤ part.len = omega (arith, first.within, count) in
    record { within = short; behind = ap lines (sym (bytes_behind t part n short)) ∙ first.behind }

pub drop_next : {X : Type 0} (n : ℕ) (xs : List X) (y : X) (ys : List X) → drop n xs ≡ y ∷ ys → drop (n + 1) xs ≡ ys
drop_next n xs y ys h = sym (drop-drop 1 n xs) ∙ ap (drop 1) h
