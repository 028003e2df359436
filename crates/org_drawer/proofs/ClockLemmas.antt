-- The minutes of clocks in pieces of a period.
use Rattle.std.proofs.Common.{◌≡◌, ℕ, zero, suc, ◌+◌, ◌-◌, ◌<◌, ◌≤◌, Bool, true, false, cond, ◌&&◌, nat_le, nat_lt, List, [], ◌∷◌, Some, None, Option, refl, ap, sym, ◌∙◌, arith}
use Rattle.std.specs.List.{sum_by, count_by, range_with_len}
use Rattle.std.proofs.lemmas.Bool.Decides.{nat_tests}
use Rattle.std.proofs.lemmas.List.Sums.{sum_by-cons}
use Rattle.org_cal.specs.Minutes.{minute_of}
use Rattle.org_cal.specs.Pieces.{AreJoined}
use Rattle.org_drawer.specs.declared.clock.ClockLine.{ClockLine}
use Rattle.org_drawer.specs.Clock.{common_minutes, minutes_in, runs_at}
use Rattle.org_drawer.proofs.ClockWords.{minutes_to}
use Rattle.org_drawer.specs.Laws.{MinutesAreCounted, PiecesMakeTheWhole, ReversedClocksHaveNone}

-- pieces that are joined end where they begin or after it
joined_end : (first : ℕ) (ps : List (ℕ × ℕ)) (last : ℕ) → AreJoined first ps last → first ≤ last + 1
joined_end first [] last e = omega (arith, e)
joined_end first (p ∷ ps) last h = omega (arith, h.0, h.1, joined_end (p.1 + 1) ps last h.2)

common_cut : (from to first middle past : ℕ) → first ≤ middle → middle ≤ past → common_minutes from to first middle + common_minutes from to middle past ≡ common_minutes from to first past
common_cut from to first middle past a b = omega arith

to_cut : (from : ℕ) (to : Option ℕ) (first middle past : ℕ) → first ≤ middle → middle ≤ past →
    minutes_to from to first middle + minutes_to from to middle past ≡ minutes_to from to first past
to_cut from None first middle past a b = refl
to_cut from (Some to) first middle past a b = common_cut from to first middle past a b

to_none : (from : ℕ) (to : Option ℕ) (at : ℕ) → minutes_to from to at at ≡ 0
to_none from None at = refl
to_none from (Some to) at = omega arith

pieces : (c : ClockLine) (first last : ℕ) (ps : List (ℕ × ℕ)) → 1 ≤ first → AreJoined first ps last →
    sum_by (minutes_in c) ps ≡ minutes_to c.from c.to (minute_of first 0) (minute_of (last + 1) 0)
pieces c first last [] one e =
    sym (to_none c.from c.to (minute_of (last + 1) 0)) ∙ ap (λ day. minutes_to c.from c.to (minute_of day 0) (minute_of (last + 1) 0)) (sym e)
pieces c first last (p ∷ ps) one h =
    let rest = pieces c (p.1 + 1) last ps (omega arith) h.2 in
    let end = joined_end (p.1 + 1) ps last h.2 in
    sum_by-cons (minutes_in c) p ps
    ∙ (ap (λ n. minutes_in c p + n) rest
    ∙ (ap (λ day. minutes_to c.from c.to (minute_of day 0) (minute_of (p.1 + 1) 0) + minutes_to c.from c.to (minute_of (p.1 + 1) 0) (minute_of (last + 1) 0)) h.0
    ∙ to_cut c.from c.to (minute_of first 0) (minute_of (p.1 + 1) 0) (minute_of (last + 1) 0) (omega (arith, h.0, h.1)) (omega (arith, end))))

pub pieces_make_the_whole : PiecesMakeTheWhole
pieces_make_the_whole c first last ps one h = pieces c first last ps one h

-- one minute of a stretch
one_minute : (from to n first : ℕ) → cond (runs_at from to first) 1 0 + common_minutes from to (first + 1) (first + 1 + n) ≡ common_minutes from to first (first + suc n)
one_minute from to n first = by (nat_le from first) (nat_lt first to) refl refl
  where
    by : (a b : Bool) → nat_le from first ≡ a → nat_lt first to ≡ b → cond (a && b) 1 0 + common_minutes from to (first + 1) (first + 1 + n) ≡ common_minutes from to first (first + suc n)
    by true true e d = let begun : from ≤ first = grind (arith, nat_tests, e) in let runs : first < to = grind (arith, nat_tests, d) in omega (arith, begun, runs)
    by true false e d = let over : to ≤ first = grind (arith, nat_tests, d) in omega (arith, over)
    by false b e d = let before : first < from = grind (arith, nat_tests, e) in omega (arith, before)

counted : (from to n first : ℕ) → count_by (runs_at from to) (range_with_len first n) ≡ common_minutes from to first (first + n)
counted from to zero first = omega arith
counted from to (suc n) first =
    sum_by-cons (λ m. cond (runs_at from to m) 1 0) first (range_with_len (first + 1) n)
    ∙ (ap (λ k. cond (runs_at from to first) 1 0 + k) (counted from to n (first + 1)) ∙ one_minute from to n first)

pub minutes_are_counted : MinutesAreCounted
minutes_are_counted from to first last =
    let a = minute_of first 0 in
    let b = minute_of (last + 1) 0 in
    let ends : common_minutes from to a (a + (b - a)) ≡ common_minutes from to a b = omega arith in
    sym (counted from to (b - a) a ∙ ends)

pub reversed_clocks_have_none : ReversedClocksHaveNone
reversed_clocks_have_none from to first last e = omega arith
