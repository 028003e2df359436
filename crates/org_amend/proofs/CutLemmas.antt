-- The lines of a text of which some go.
use Rattle.std.proofs.Common.{◌≡◌, ◌⊎◌, ◌∙◌, inl, inr, ℕ, zero, suc, ◌+◌, ◌-◌, ◌<◌, ◌≤◌, ◌==◌, ◌&&◌, true, false, List, [], ◌∷◌, ◌++◌, length, take, drop, refl, sym, ap, subst, arith, append_assoc, append-nil, length-append, length-take}
use Rattle.std.specs.Prelude.{nat_le, slice_index}
use Rattle.std.specs.List.{AllByRecursion, concat, onto_first, slice_range}
use Rattle.std.specs.Str.{IsUtf8}
use Rattle.std.proofs.lemmas.Bool.{and_parts, cases_Bool, eqb-true, leb-true}
use Rattle.std.proofs.lemmas.List.{take-append-drop, take-take}
use Rattle.std.proofs.lemmas.Str.{IsUtf8-append, IsUtf8-nil}
use Rattle.org_amend.specs.Cancelled.{end_len}
use Rattle.org_base.specs.Spans.{bytes_in}
use Rattle.org_base.specs.declared.span.Span.{Span}
use Rattle.org_class.proofs.LineLemmas.{bytes_behind, first_line}
use Rattle.org_lines.specs.Cuts.{lines}
use Rattle.org_lines.proofs.LineLemmas.{concat-lines, range_is}
use Rattle.org_stamp.proofs.SpacedLemmas.{drop_front, take_front}

-- a line that is ended: whatever follows it begins a line
pub record IsEnded (l : List ℕ) : Type 0 where
  pub front : List ℕ
  pub is : l ≡ front ++ 10 ∷ []
  pub cuts : (u : List ℕ) → lines (l ++ u) ≡ l ∷ lines u

fed : (b : ℕ) → (b == 10) ≡ true → IsEnded (b ∷ [])
fed b feed = record { front = []; is = ap (λ (x : ℕ). x ∷ []) (eqb-true b 10 feed); cuts = λ u. rw feed refl }

longer : (b : ℕ) (x : List ℕ) → (b == 10) ≡ false → IsEnded x → IsEnded (b ∷ x)
longer b x other h = record {
  front = b ∷ h.front;
  is = ap (λ xs. b ∷ xs) h.is;
  cuts = λ u. rw other (ap (onto_first b) (h.cuts u));
}

onto_ended : (b : ℕ) (bs l m : List ℕ) (ls xs : List (List ℕ)) → (b == 10) ≡ false → lines bs ≡ xs → onto_first b xs ≡ l ∷ m ∷ ls →
    ((x : List ℕ) → lines bs ≡ x ∷ m ∷ ls → IsEnded x) → IsEnded l
onto_ended b bs l m ls [] other e h again = absurd cc
onto_ended b bs l m ls (x ∷ xs) other e h again =
    let front : l ≡ b ∷ x = cc in
    let rest : xs ≡ m ∷ ls = cc in
    subst IsEnded (sym front) (longer b x other (again x (e ∙ ap (λ r. x ∷ r) rest)))

-- the first of two lines or more is ended
pub first_ended : (t l m : List ℕ) (ls : List (List ℕ)) → lines t ≡ l ∷ m ∷ ls → IsEnded l
first_ended [] l m ls e = absurd cc
first_ended (b ∷ bs) l m ls e = elim (cases_Bool (b == 10)) [
  | inl feed ↦ (
      let is : (b ∷ []) ∷ lines bs ≡ l ∷ m ∷ ls = rw feed at e in
      let front : l ≡ b ∷ [] = cc in
      subst IsEnded (sym front) (fed b feed))
  | inr other ↦ onto_ended b bs l m ls (lines bs) other refl (let is : onto_first b (lines bs) ≡ l ∷ m ∷ ls = rw other at e in is) (λ x k. first_ended bs x m ls k)
]

-- the lines behind a line, and behind more

tail_is : (t l : List ℕ) (ls : List (List ℕ)) → lines t ≡ l ∷ ls → drop (length l) t ≡ concat ls
tail_is t l ls h = ap (drop (length l)) (sym (concat-lines t) ∙ ap concat h) ∙ drop_front l (concat ls)

pub tail_lines : (t l : List ℕ) (ls : List (List ℕ)) → lines t ≡ l ∷ ls → lines (concat ls) ≡ ls
tail_lines t l ls h = ap lines (sym (tail_is t l ls h)) ∙ (first_line t l ls h).behind

pub back_lines : (t : List ℕ) (before ls : List (List ℕ)) → lines t ≡ before ++ ls → lines (concat ls) ≡ ls
back_lines t [] ls h = ap lines (ap concat (sym h) ∙ concat-lines t) ∙ h
back_lines t (b ∷ before) ls h = back_lines (concat (before ++ ls)) before ls (tail_lines t b (before ++ ls) h)

-- so are lines before another line
ended_next : (t b l : List ℕ) (before ls : List (List ℕ)) → lines t ≡ b ∷ (before ++ l ∷ ls) → IsEnded b
ended_next t b l [] ls h = first_ended t b l ls h
ended_next t b l (m ∷ before) ls h = first_ended t b m (before ++ l ∷ ls) h

pub front_lines_are : (t l u : List ℕ) (before ls : List (List ℕ)) → lines t ≡ before ++ l ∷ ls → lines (concat before ++ u) ≡ before ++ lines u
front_lines_are t l u [] ls h = refl
front_lines_are t l u (b ∷ before) ls h =
    ap lines (append_assoc b (concat before) u)
    ∙ ((ended_next t b l before ls h).cuts (concat before ++ u)
    ∙ ap (λ xs. b ∷ xs) (front_lines_are (concat (before ++ l ∷ ls)) l u before ls (tail_lines t b (before ++ l ∷ ls) h)))

-- no line is empty

abbrev pub AreSome : List (List ℕ) → Type 0
AreSome ls = AllByRecursion (λ l. 0 < length l) ls

pub lines_some : (ls : List (List ℕ)) (t : List ℕ) → lines t ≡ ls → AreSome ls
lines_some [] t h = tt
lines_some (l ∷ ls) t h = ((first_line t l ls h).some, lines_some ls (concat ls) (tail_lines t l ls h))

-- what stands before one place is the same however it is cut
pub same_place : (xs us ys vs : List (List ℕ)) → AreSome (xs ++ us) → xs ++ us ≡ ys ++ vs → length (concat xs) ≡ length (concat ys) → (xs ≡ ys) × (us ≡ vs)
same_place [] us [] vs some e size = (refl, e)
same_place [] us (y ∷ ys) vs some e size =
    let there : AreSome (y ∷ (ys ++ vs)) = subst AreSome e some in
    absurd (omega (arith, size, there.0, length-append y (concat ys)))
same_place (x ∷ xs) us [] vs some e size = absurd (omega (arith, size, some.0, length-append x (concat xs)))
same_place (x ∷ xs) us (y ∷ ys) vs some e size =
    let first : x ≡ y = cc in
    let rest : xs ++ us ≡ ys ++ vs = cc in
    let len : length x ≡ length y = ap length first in
    let more = same_place xs us ys vs some.1 rest (omega (arith, size, len, length-append x (concat xs), length-append y (concat ys))) in
    (ap (λ l. l ∷ xs) first ∙ ap (λ ls. y ∷ ls) more.0, more.1)

-- a part of a text that is cut into three

pub record IsCut (text : List ℕ) (section : Span) (a b c : List ℕ) : Type 0 where
  pub is : bytes_in text section ≡ a ++ (b ++ c)
  pub size : section.len ≡ length a + (length b + length c)

pub cut_front : (text : List ℕ) (section : Span) (a b c : List ℕ) → IsCut text section a b c → slice_range text section.at (section.at + length a) ≡ a
cut_front text section a b c h =
    let n = length a in
    let long : take n (take section.len (drop section.at text)) ≡ take n (drop section.at text) = take-take n section.len (drop section.at text) (omega (arith, h.size)) in
    range_is text section.at n
    ∙ (sym long ∙ (ap (take n) (sym (range_is text section.at section.len) ∙ h.is) ∙ take_front a (b ++ c)))

-- the part from a place on
from_place : (text : List ℕ) (section : Span) (front back : List ℕ) → bytes_in text section ≡ front ++ back → section.len ≡ length front + length back →
    bytes_in text (record { at = section.at + length front; len = section.len - length front }) ≡ back
from_place text section front back is size = sym (bytes_behind text section (length front) (omega (arith, size))) ∙ (ap (drop (length front)) is ∙ drop_front front back)

pub cut_back : (text : List ℕ) (section : Span) (a b c : List ℕ) → IsCut text section a b c → slice_range text (section.at + length a + length b) (section.at + section.len) ≡ c
cut_back text section a b c h =
    let n = length (a ++ b) in
    let sum : n ≡ length a + length b = length-append a b in
    let from : section.at + n ≡ section.at + length a + length b = omega (arith, sum) in
    let end : section.at + n + (section.len - n) ≡ section.at + section.len = omega (arith, sum, h.size) in
    ap (λ k. slice_range text k (section.at + section.len)) (sym from)
    ∙ (ap (slice_range text (section.at + n)) (sym end)
    ∙ from_place text section (a ++ b) c (h.is ∙ sym (append_assoc a b c)) (omega (arith, sum, h.size)))

pub cut_middle : (text : List ℕ) (section : Span) (a b c : List ℕ) → IsCut text section a b c → slice_range text (section.at + length a) (section.at + length a + length b) ≡ b
cut_middle text section a b c h =
    let rest : Span = record { at = section.at + length a; len = section.len - length a } in
    let behind : bytes_in text rest ≡ [] ++ (b ++ c) = from_place text section a (b ++ c) h.is (omega (arith, h.size, length-append b c)) in
    let inner : bytes_in text rest ≡ b ++ (c ++ []) = behind ∙ ap (λ x. b ++ x) (sym (append-nil c)) in
    cut_front text rest b c [] (record { is = inner; size = omega (arith, h.size) })

-- the end of a line

last_one : (f : List ℕ) → 0 < length f → drop (length f - 1) f ≡ slice_index f (length f - 1) ∷ []
last_one [] some = absurd (omega (arith, some))
last_one (x ∷ []) some = refl
last_one (x ∷ y ∷ f) some =
    let last : length (x ∷ y ∷ f) - 1 ≡ suc (length (y ∷ f) - 1) = omega arith in
    ap (λ k. drop k (x ∷ y ∷ f)) last ∙ (last_one (y ∷ f) (omega arith) ∙ ap (λ k. slice_index (x ∷ y ∷ f) k ∷ []) (sym last))

index_front : (f g : List ℕ) (k : ℕ) → k < length f → slice_index (f ++ g) k ≡ slice_index f k
index_front [] g k h = absurd (omega (arith, h))
index_front (x ∷ f) g zero h = refl
index_front (x ∷ f) g (suc k) h = index_front f g k (omega (arith, h))

drop_part : (k : ℕ) (f g : List ℕ) → k ≤ length f → drop k (f ++ g) ≡ drop k f ++ g
drop_part zero f g h = refl
drop_part (suc k) [] g h = absurd (omega (arith, h))
drop_part (suc k) (x ∷ f) g h = drop_part k f g (omega (arith, h))

-- the end of bytes that end with a line feed: with a carriage return before it or without
abbrev pub IsEnd : List ℕ → Type 0
IsEnd end = (end ≡ 10 ∷ []) ⊎ (end ≡ 13 ∷ 10 ∷ [])

pub record HasEnd (b : List ℕ) : Type 0 where
  pub front : List ℕ
  pub end : List ℕ
  pub is : b ≡ front ++ end
  pub front_len : length front ≡ length b - end_len b
  pub end_is : IsEnd end

end_by : (f : List ℕ) → HasEnd (f ++ 10 ∷ [])
end_by f =
    let b : List ℕ = f ++ 10 ∷ [] in
    let size : length b ≡ length f + 1 = length-append f (10 ∷ []) in
    elim (cases_Bool (nat_le 2 (length b) && (slice_index b (length b - 2) == 13))) [
      | inr other ↦
          let one : end_len b ≡ 1 = rw other refl in
          record { front = f; end = 10 ∷ []; is = refl; front_len = omega (arith, one, size); end_is = inl refl }
      | inl both ↦
          let two : end_len b ≡ 2 = rw both refl in
          let parts = and_parts (nat_le 2 (length b)) (slice_index b (length b - 2) == 13) both in
          let long : 2 ≤ length b = leb-true 2 (length b) parts.0 in
          let place : length b - 2 ≡ length f - 1 = omega (arith, size) in
          let byte : slice_index f (length f - 1) ≡ 13 =
          sym (index_front f (10 ∷ []) (length f - 1) (omega (arith, size, long))) ∙ (ap (slice_index b) (sym place) ∙ eqb-true (slice_index b (length b - 2)) 13 parts.1) in
          let last : drop (length f - 1) f ≡ 13 ∷ [] = last_one f (omega (arith, size, long)) ∙ ap (λ (x : ℕ). x ∷ []) byte in
          let whole : f ≡ take (length f - 1) f ++ 13 ∷ [] = sym (take-append-drop (length f - 1) f) ∙ ap (λ x. take (length f - 1) f ++ x) last in
          record {
            front = take (length f - 1) f;
            end = 13 ∷ 10 ∷ [];
            is = ap (λ x. x ++ 10 ∷ []) whole ∙ append_assoc (take (length f - 1) f) (13 ∷ []) (10 ∷ []);
            front_len = omega (arith, two, size, length-take (length f - 1) f);
            end_is = inr refl;
          }
    ]

pub end_of : (b f : List ℕ) → b ≡ f ++ 10 ∷ [] → HasEnd b
end_of b f is = subst HasEnd (sym is) (end_by f)

-- such an end is a line
pub end_line : (end u : List ℕ) → IsEnd end → lines (end ++ u) ≡ end ∷ lines u
end_line end u (inl is) = ap (λ e. lines (e ++ u)) is ∙ ap (λ (e : List ℕ). e ∷ lines u) (sym is)
end_line end u (inr is) = ap (λ e. lines (e ++ u)) is ∙ ap (λ (e : List ℕ). e ∷ lines u) (sym is)

-- lines of text are text

pub front_text : (xs ys : List (List ℕ)) → AllByRecursion IsUtf8 (xs ++ ys) → IsUtf8 (concat xs)
front_text [] ys h = IsUtf8-nil
front_text (x ∷ xs) ys h = IsUtf8-append x (concat xs) h.0 (front_text xs ys h.1)
