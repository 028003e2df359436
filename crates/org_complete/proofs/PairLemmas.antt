-- The stamps of a planning line stand one after the other.
use Rattle.std.proofs.Common.{◌≡◌, ◌⊎◌, ℕ, zero, suc, ◌+◌, ◌-◌, ◌<◌, ◌≤◌, Bool, true, false, cond, inl, inr, List, [], ◌∷◌, length, drop, refl, arith, length-drop, Some, None}
use Rattle.std.specs.Prelude.{Option, ⊤, IfSome, codes, nat_eq, ◌&&◌, ◌==◌}
use Rattle.std.specs.Option.{option_or, option_map, option_and_then}
use Rattle.std.specs.List.{prefix_len, starts_with}
use Rattle.std.proofs.lemmas.Bool.{cases_Bool}
use Rattle.org_base.specs.Words.{is_space}
use Rattle.org_base.specs.declared.span.Span.{Span}
use Rattle.org_stamp.specs.Pair.{pair_of, pair_at, pairs_from, pairs, past_spaces, word_at, is_planning}
use Rattle.org_stamp.proofs.PairWords.{pair_and}
use Rattle.org_stamp.specs.Read.{single_of, ranged, joined, same_bool}
use Rattle.org_stamp.specs.declared.pair.Pair.{Pair}
use Rattle.org_stamp.specs.declared.pair.PlanningKeyword.{PlanningKeyword}
use Rattle.org_stamp.specs.declared.pair.PlanningKeyword.TheVariants.{Scheduled, Deadline, Closed}
use Rattle.org_stamp.specs.declared.stamp.Stamp.{Stamp}
use Rattle.org_stamp.proofs.ReadLemmas.{single_found}
use Rattle.org_drawer.specs.Planning.{is_same, stamp_if, last_of, planning_of}
use Rattle.org_drawer.specs.declared.planning.Planning.{Planning}
use Rattle.org_entry.specs.Planning.{moved, moved_stamp}

-- each pair's stamp begins after a place, and the next one's after its end; the last ends within so many bytes
abbrev pub AreInOrder : ℕ → ℕ → List Pair → Type 0
AreInOrder low most [] = ⊤
AreInOrder low most (p ∷ ps) = (low < p.at) × (p.at + p.len ≤ most) × AreInOrder (p.at + p.len) most ps

lower : (low high most : ℕ) (ps : List Pair) → low ≤ high → AreInOrder high most ps → AreInOrder low most ps
lower low high most [] le h = tt
lower low high most (p ∷ ps) le h = (let first = h.0 in omega arith, h.1, h.2)

-- the longest stamp is no shorter than the first of its range
joined_more : (s : Stamp) (n : ℕ) (o : Option (Stamp × ℕ)) → n ≤ (joined s n o).1
joined_more s n None = omega arith
joined_more s n (Some t) = elim (cases_Bool (same_bool s.active t.0.active)) [ inl e ↦ rw e (omega arith) | inr e ↦ rw e (omega arith) ]

ranged_more : (s : Stamp) (n : ℕ) (bs : List ℕ) → n ≤ (ranged s n bs).1
ranged_more s n [] = omega arith
ranged_more s n (a ∷ []) = omega arith
ranged_more s n (a ∷ b ∷ rest) = elim (cases_Bool ((a == 45) && (b == 45))) [ inl e ↦ rw e (joined_more s n (single_of rest)) | inr e ↦ rw e (omega arith) ]

-- a pair whose stamp stands after a place, whose end is no less than the stamp's
abbrev IsPairBehind : ℕ → ℕ → Option Pair → Type 0
IsPairBehind low most None = ⊤
IsPairBehind low most (Some p) = (low < p.at) × (p.at + p.len ≤ p.end) × (p.at + p.len ≤ most)

some_bytes : (bs : List ℕ) (f : Stamp × ℕ) → single_of bs ≡ Some f → 0 < length bs
unfolding single_of
some_bytes [] f e = absurd cc
some_bytes (b ∷ bs) f e = omega arith

pair_of_single : (word : PlanningKeyword) (low at most : ℕ) (bs : List ℕ) (o : Option (Stamp × ℕ)) → single_of bs ≡ o → low < at → (0 < length bs → at + length bs ≤ most) →
    IsPairBehind low most (option_and_then (λ (all : Stamp × ℕ). option_map (λ (first : Stamp × ℕ). record { word = word; stamp = first.0; at = at; len = first.1; end = at + all.1 }) o) (option_map (λ (found : Stamp × ℕ). ranged found.0 found.1 (drop found.1 bs)) o))
pair_of_single word low at most bs None e lt le = tt
pair_of_single word low at most bs (Some f) e lt le =
    let more = ranged_more f.0 f.1 (drop f.1 bs) in
    let within = (single_found bs f.0 f.1 e).0 in
    let room = le (some_bytes bs f e) in
    (lt, omega (arith, more), omega (arith, within, room))

word_len : (bs : List ℕ) → IfSome (word_at bs) (λ k. 0 < k.1)
word_len bs = elim (cases_Bool (starts_with nat_eq bs (codes "SCHEDULED:"))) [
  | inl e ↦ rw e (omega arith)
  | inr e ↦ elim (cases_Bool (starts_with nat_eq bs (codes "DEADLINE:"))) [
    | inl f ↦ rw (e, f) (omega arith)
    | inr f ↦ elim (cases_Bool (starts_with nat_eq bs (codes "CLOSED:"))) [ inl g ↦ rw (e, f, g) (omega arith) | inr g ↦ rw (e, f, g) tt ]
  ]
]

pair_behind : (at most : ℕ) (bs : List ℕ) (o : Option (PlanningKeyword × ℕ)) → IfSome o (λ k. 0 < k.1) → at + length bs ≤ most →
    IsPairBehind at most (option_and_then (λ (k : PlanningKeyword × ℕ). pair_of k.0 (at + (k.1 + prefix_len is_space (drop k.1 bs))) (past_spaces (drop k.1 bs))) o)
pair_behind at most bs None h le = tt
pair_behind at most bs (Some k) h le =
    let rest = drop k.1 bs in
    let n = prefix_len is_space rest in
    let count : length (past_spaces rest) ≡ length bs - k.1 - n = (let one = length-drop n rest in let two = length-drop k.1 bs in omega (arith, one, two)) in
    pair_of_single k.0 at (at + (k.1 + n)) most (past_spaces rest) (single_of (past_spaces rest)) refl (omega (arith, h)) (λ some. omega (arith, count, some, le))

and_order : (at most : ℕ) (later : ℕ → List Pair) (o : Option Pair) → IsPairBehind at most o → ((k : ℕ) → AreInOrder (at + 1 + k) most (later k)) → AreInOrder (at + 0) most (pair_and at later o)
and_order at most later None h more = tt
and_order at most later (Some p) h more =
    let a = h.0 in
    let b = h.1 in
    let high : p.at + p.len ≤ at + 1 + (p.end - (at + 1)) = omega (arith, b) in
    (omega (arith, a), h.2, lower (p.at + p.len) (at + 1 + (p.end - (at + 1))) most (later (p.end - (at + 1))) high (more (p.end - (at + 1))))

in_order : (bs : List ℕ) (at inside most : ℕ) → at + length bs ≤ most → AreInOrder (at + inside) most (pairs_from bs at inside)
unfolding pairs_from
in_order [] at zero most le = tt
in_order [] at (suc inside) most le = tt
in_order (b ∷ bs) at zero most le =
    let next : at + 1 + length bs ≤ most = omega (arith, le) in
    elim (cases_Bool (is_space b)) [
      | inl s ↦ rw s (lower (at + 0) (at + 1 + 0) most (pairs_from bs (at + 1) 0) (omega arith) (in_order bs (at + 1) 0 most next))
      | inr s ↦ rw s (and_order at most (pairs_from bs (at + 1)) (pair_at at (b ∷ bs)) (pair_behind at most (b ∷ bs) (word_at (b ∷ bs)) (word_len (b ∷ bs)) le) (λ k. in_order bs (at + 1) k most next))
    ]
in_order (b ∷ bs) at (suc inside) most le =
    let next : at + 1 + length bs ≤ most = omega (arith, le) in
    lower (at + suc inside) (at + 1 + inside) most (pairs_from bs (at + 1) inside) (omega arith) (in_order bs (at + 1) inside most next)

-- a stamp stands after a place and ends within so many bytes
abbrev pub IsWithin : ℕ → ℕ → Option (Stamp × Span) → Type 0
IsWithin low most None = ⊤
IsWithin low most (Some s) = (low < s.1.at) × (s.1.at + s.1.len ≤ most)

-- of two stamps one stands after the other
abbrev pub AreDisjoint : Option (Stamp × Span) → Option (Stamp × Span) → Type 0
AreDisjoint None b = ⊤
AreDisjoint (Some a) None = ⊤
AreDisjoint (Some a) (Some b) = (a.1.at + a.1.len < b.1.at) ⊎ (b.1.at + b.1.len < a.1.at)

-- the stamps that may shift stand between two places, one after the other
pub record IsLaid (low most : ℕ) (planning : Planning) : Type 0 where
  pub scheduled : IsWithin low most planning.scheduled
  pub deadline : IsWithin low most planning.deadline
  pub apart : AreDisjoint planning.scheduled planning.deadline

wider : (low high most : ℕ) (o : Option (Stamp × Span)) → low ≤ high → IsWithin high most o → IsWithin low most o
wider low high most None le h = tt
wider low high most (Some s) le h = (let first = h.0 in omega arith, h.1)

either : (low most : ℕ) (a b : Option (Stamp × Span)) → IsWithin low most a → IsWithin low most b → IsWithin low most (option_or a b)
either low most None b h k = k
either low most (Some s) b h k = h

if_within : (low most : ℕ) (same : Bool) (p : Pair) → low < p.at → p.at + p.len ≤ most → IsWithin low most (cond same (Some (p.stamp, record { at = p.at; len = p.len })) None)
if_within low most true p h k = (h, k)
if_within low most false p h k = tt

last_within : (word : PlanningKeyword) (low most : ℕ) (ps : List Pair) → AreInOrder low most ps → IsWithin low most (last_of word ps)
last_within word low most [] h = tt
last_within word low most (p ∷ ps) h =
    let first = h.0 in
    either low most (last_of word ps) (stamp_if word p) (wider low (p.at + p.len) most (last_of word ps) (omega arith) (last_within word (p.at + p.len) most ps h.2)) (if_within low most (is_same word p.word) p h.0 h.1)

or_none : {X : Type 0} (a : Option X) → option_or a None ≡ a
or_none None = refl
or_none (Some x) = refl

left_apart : (s : Stamp × Span) (most : ℕ) (a b : Option (Stamp × Span)) → IsWithin (s.1.at + s.1.len) most b → AreDisjoint a b → AreDisjoint (option_or a (Some s)) b
left_apart s most None None h k = tt
left_apart s most None (Some b) h k = inl h.0
left_apart s most (Some a) b h k = k

right_apart : (s : Stamp × Span) (most : ℕ) (a b : Option (Stamp × Span)) → IsWithin (s.1.at + s.1.len) most a → AreDisjoint a b → AreDisjoint a (option_or b (Some s))
right_apart s most None b h k = tt
right_apart s most (Some a) None h k = inr h.0
right_apart s most (Some a) (Some b) h k = k

one_apart : (word : PlanningKeyword) (s : Stamp × Span) (most : ℕ) (a b : Option (Stamp × Span)) → IsWithin (s.1.at + s.1.len) most a → IsWithin (s.1.at + s.1.len) most b → AreDisjoint a b →
    AreDisjoint (option_or a (cond (is_same Scheduled word) (Some s) None)) (option_or b (cond (is_same Deadline word) (Some s) None))
one_apart Scheduled s most a b h k l = rw (or_none b) (left_apart s most a b k l)
one_apart Deadline s most a b h k l = rw (or_none a) (right_apart s most a b h l)
one_apart Closed s most a b h k l = rw (or_none a, or_none b) l

last_apart : (low most : ℕ) (ps : List Pair) → AreInOrder low most ps → AreDisjoint (last_of Scheduled ps) (last_of Deadline ps)
last_apart low most [] h = tt
last_apart low most (p ∷ ps) h =
    one_apart p.word (p.stamp, record { at = p.at; len = p.len }) most (last_of Scheduled ps) (last_of Deadline ps)
    (last_within Scheduled (p.at + p.len) most ps h.2) (last_within Deadline (p.at + p.len) most ps h.2) (last_apart (p.at + p.len) most ps h.2)

pub planning_laid : (line : List ℕ) → IfSome (planning_of line) (IsLaid 0 (length line))
planning_laid line =
    let whole : 0 + length line ≤ length line = omega arith in
    let all : AreInOrder 0 (length line) (pairs line) = lower 0 (0 + 0) (length line) (pairs line) (omega arith) (in_order line 0 0 (length line) whole) in
    elim (cases_Bool (is_planning line)) [
      | inl e ↦ rw e (record {
        scheduled = last_within Scheduled 0 (length line) (pairs line) all;
        deadline = last_within Deadline 0 (length line) (pairs line) all;
        apart = last_apart 0 (length line) (pairs line) all;
      })
      | inr e ↦ rw e tt
    ]

-- the same so much further
moved_within : (at most : ℕ) (o : Option (Stamp × Span)) → IsWithin 0 most o → IsWithin at (at + most) (option_map (moved_stamp at) o)
moved_within at most None h = tt
moved_within at most (Some s) h = (let first = h.0 in omega arith, let last = h.1 in omega arith)

moved_apart : (at : ℕ) (a b : Option (Stamp × Span)) → AreDisjoint a b → AreDisjoint (option_map (moved_stamp at) a) (option_map (moved_stamp at) b)
moved_apart at None b h = tt
moved_apart at (Some a) None h = tt
moved_apart at (Some a) (Some b) h = elim h [ inl lt ↦ inl (omega arith) | inr lt ↦ inr (omega arith) ]

pub moved_laid : (at most : ℕ) (o : Option Planning) → IfSome o (IsLaid 0 most) → IfSome (option_map (moved at) o) (IsLaid at (at + most))
moved_laid at most None h = tt
moved_laid at most (Some p) h = record {
  scheduled = moved_within at most p.scheduled h.scheduled;
  deadline = moved_within at most p.deadline h.deadline;
  apart = moved_apart at p.scheduled p.deadline h.apart;
}
