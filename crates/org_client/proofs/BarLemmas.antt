-- Lengths of bars grow with their sums, and those of parts add up.
use Rattle.std.proofs.Common.{◌≡◌, ◌<◌, ◌≤◌, ℕ, zero, suc, ◌%◌, ◌+◌, ◌-◌, ◌*◌, ◌/◌, inl, inr, List, [], ◌∷◌, refl, ap, ◌∙◌, arith}
use Rattle.std.specs.Prelude.{◌⊎◌, fold, min}
use Rattle.std.specs.List.{sum}
use Rattle.std.proofs.lemmas.Bool.{lt-ltb, ne_eqb}
use Rattle.std.proofs.lemmas.Nat.{div-add-mod', div_below, le-div, mul-le, row_fits}
use Rattle.std.proofs.lemmas.List.Sums.{sum_by_from}
use Rattle.std.proofs.Math.Nat.{mul_comm}
use Rattle.org_client.specs.Bars.{bar_eighths, lengths_from, share_of, shown_length}
use Rattle.org_client.specs.BarLaws.{BarsFollowSums, NothingHasNoBar, PartsAddUp}

some : (whole part units : ℕ) → 0 < whole → share_of part whole units ≡ (part * units + whole / 2) / whole
some whole part units h = rw (ne_eqb whole 0 (λ e. omega (arith, e, h))) refl

pub share_grows : (a b whole units : ℕ) → a ≤ b → share_of a whole units ≤ share_of b whole units
share_grows a b zero units le = omega arith
share_grows a b (suc w) units le =
    let whole : ℕ = suc w in
    let q : ℕ = (a * units + whole / 2) / whole in
    let n : ℕ = a * units + whole / 2 in
    let split : q * whole + n % whole ≡ n = div-add-mod' n whole in
    let more : a * units ≤ b * units = mul-le a units b units le (omega arith) in
    let fits : q ≤ (b * units + whole / 2) / whole = le-div q (b * units + whole / 2) whole (omega arith) (omega (arith, split, more)) in
    rw (some whole a units (omega arith), some whole b units (omega arith)) fits

below_rows : (u w p h : ℕ) → p ≤ u * w → h < w → p + h < (u + 1) * w
below_rows u w p h le lt =
    let row : u * w + w ≤ (u + 1) * w = row_fits u w (u + 1) w (omega arith) (omega arith) in
    omega (arith, le, lt, row)

half_below : (w : ℕ) → suc w / 2 < suc w
half_below w = div_below (suc w) 2 (suc w) (omega arith) (omega arith)

-- a part of its whole is no longer than all
pub share_fits : (part whole units : ℕ) → part ≤ whole → share_of part whole units ≤ units
share_fits part zero units le = omega arith
share_fits part (suc w) units le =
    let half : suc w / 2 < suc w = half_below w in
    let most : part * units ≤ suc w * units = mul-le part units (suc w) units le (omega arith) in
    let turned : suc w * units ≡ units * suc w = mul_comm (suc w) units in
    let below : part * units + suc w / 2 < (units + 1) * suc w = below_rows units (suc w) (part * units) (suc w / 2) (omega (arith, most, turned)) half in
    let short : (part * units + suc w / 2) / suc w < units + 1 = div_below (part * units + suc w / 2) (suc w) (units + 1) (omega arith) below in
    rw (some (suc w) part units (omega arith)) (omega (arith, short))

pub none_of_nothing : (whole units : ℕ) → share_of 0 whole units ≡ 0
none_of_nothing zero units = refl
none_of_nothing (suc w) units =
    let short : (0 * units + suc w / 2) / suc w < 1 = div_below (0 * units + suc w / 2) (suc w) 1 (omega arith) (let half = half_below w in omega (arith, half)) in
    rw (some (suc w) 0 units (omega arith)) (omega (arith, short))

something : (minutes n : ℕ) → 0 < minutes → (shown_length minutes n ≡ 1) × (n ≡ 0) ⊎ (shown_length minutes n ≡ n) × (0 < n)
something minutes zero more = inl (rw (lt-ltb 0 minutes more) refl, refl)
something minutes (suc n) more = inr (rw (lt-ltb 0 minutes more, ne_eqb (suc n) 0 (λ e. omega (arith, e))) refl, omega arith)

-- a bar of nothing
no_bar : (most columns : ℕ) → bar_eighths 0 most columns ≡ 0
no_bar most columns = let nothing : min 0 most ≡ 0 = omega arith in ap (λ n. shown_length 0 (share_of n most (columns * 8))) nothing ∙ none_of_nothing most (columns * 8)

pub bars_follow_sums : BarsFollowSums
bars_follow_sums zero b most columns le room =
    let none : bar_eighths 0 most columns ≡ 0 = no_bar most columns in
    (omega (arith, none), no_longer b most columns room)
  where
    no_longer : (b most columns : ℕ) → 0 < columns → bar_eighths b most columns ≤ columns * 8
    no_longer zero most columns room = let none : bar_eighths 0 most columns ≡ 0 = no_bar most columns in omega (arith, none)
    no_longer (suc b) most columns room =
        let most_long = share_fits (min (suc b) most) most (columns * 8) (omega arith) in
        elim (something (suc b) (share_of (min (suc b) most) most (columns * 8)) (omega arith)) [
          | inl one ↦ let e = one.0 in omega (arith, e, room)
          | inr own ↦ let e = own.0 in omega (arith, e, most_long)
        ]
bars_follow_sums (suc a) b most columns le room =
    let grows = share_grows (min (suc a) most) (min b most) most (columns * 8) (omega (arith, le)) in
    let most_long = share_fits (min b most) most (columns * 8) (omega arith) in
    elim (something (suc a) (share_of (min (suc a) most) most (columns * 8)) (omega arith)) [
      | inl one ↦ elim (something b (share_of (min b most) most (columns * 8)) (omega (arith, le))) [
        | inl other ↦ let e = one.0 in let f = other.0 in (omega (arith, e, f), omega (arith, f, room))
        | inr own ↦ let e = one.0 in let f = own.0 in let g = own.1 in (omega (arith, e, f, g), omega (arith, f, most_long))
      ]
      | inr more ↦ elim (something b (share_of (min b most) most (columns * 8)) (omega (arith, le))) [
        | inl other ↦ let m = more.1 in let z = other.1 in absurd (omega (arith, grows, m, z))
        | inr own ↦ let e = more.0 in let f = own.0 in (omega (arith, e, f, grows), omega (arith, f, most_long))
      ]
    ]

pub nothing_has_no_bar : NothingHasNoBar
nothing_has_no_bar zero most columns = (λ h. refl, λ h. no_bar most columns)
nothing_has_no_bar (suc m) most columns = (
  λ h. elim (something (suc m) (share_of (min (suc m) most) most (columns * 8)) (omega arith)) [
    | inl one ↦ let e = one.0 in absurd (omega (arith, e, h))
    | inr own ↦ let e = own.0 in let g = own.1 in absurd (omega (arith, e, g, h))
  ],
  λ h. absurd (omega (arith, h)),
)

-- a sum that begins with another
sum_more : (a : ℕ) (xs : List ℕ) → fold ◌+◌ a xs ≡ a + sum xs
sum_more a xs =
    let all = sum_by_from (λ x. x) a xs in
    let own = sum_by_from (λ x. x) 0 xs in
    omega (arith, all, own)

ends_add_up : (so_far most columns : ℕ) (sums : List ℕ) → so_far + sum sums ≤ most → share_of so_far most columns + sum (lengths_from so_far most columns sums) ≡ share_of (so_far + sum sums) most columns
ends_add_up so_far most columns [] le = let e : so_far + 0 ≡ so_far = omega arith in rw e (omega arith)
ends_add_up so_far most columns (s ∷ sums) le =
    let all : so_far + fold ◌+◌ (0 + s) sums ≡ so_far + s + sum sums = (let more = sum_more (0 + s) sums in omega (arith, more)) in
    let within : min (so_far + s) most ≡ so_far + s = omega (arith, le, all) in
    let here : ℕ = share_of so_far most columns in
    let next : ℕ = share_of (so_far + s) most columns in
    let grows : here ≤ next = share_grows so_far (so_far + s) most columns (omega arith) in
    let rest : next + sum (lengths_from (so_far + s) most columns sums) ≡ share_of (so_far + s + sum sums) most columns = ends_add_up (so_far + s) most columns sums (omega (arith, le, all)) in
    let lengths : fold ◌+◌ (0 + (next - here)) (lengths_from (so_far + s) most columns sums) ≡ 0 + (next - here) + sum (lengths_from (so_far + s) most columns sums) = sum_more (0 + (next - here)) (lengths_from (so_far + s) most columns sums) in
    rw (all, within) (omega (arith, grows, rest, lengths))

pub parts_add_up : PartsAddUp
parts_add_up sums most columns le =
    let none : share_of 0 most columns ≡ 0 = none_of_nothing most columns in
    let all : share_of 0 most columns + sum (lengths_from 0 most columns sums) ≡ share_of (0 + sum sums) most columns = ends_add_up 0 most columns sums (omega (arith, le)) in
    let same : 0 + sum sums ≡ sum sums = omega arith in
    let end : share_of (0 + sum sums) most columns ≡ share_of (sum sums) most columns = ap (λ n. share_of n most columns) same in
    omega (arith, none, all, end)
