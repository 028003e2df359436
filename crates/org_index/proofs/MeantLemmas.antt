-- What being near means.
use Rattle.std.proofs.Common.{◌≡◌, ◌≢◌, ◌⊎◌, ℕ, ◌+◌, ◌-◌, ◌≤◌, Bool, true, false, ◌&&◌, ◌||◌, IsTrue, inl, inr, refl, sym, ap, true≢false, arith}
use Rattle.std.specs.Prelude.{Option, Some, None, nat_le, is_some, is_none, if◌then◌else◌}
use Rattle.std.proofs.lemmas.Bool.{and_parts, or_cases, cases_lt, lt-ltb, le-ltb}
use Rattle.std.proofs.lemmas.Bool.Decides.{nat_tests}
use Rattle.org_base.specs.declared.profile.Profile.{Profile}
use Rattle.org_base.specs.declared.profile.Profile.TheVariants.{One, Two}
use Rattle.org_stamp.specs.declared.stamp.Stamp.{Stamp}
use Rattle.org_index.specs.Delays.{delay_or}
use Rattle.org_index.specs.Reaches.{last_day, repeats}
use Rattle.org_index.specs.Laws.{IsNear, NearIsMeant, RangeMeets, Repeats}
use Rattle.org_index.specs.Near.{is_near, lies_in}

pub le_of : (a b : ℕ) → nat_le a b ≡ true → a ≤ b
le_of a b h = grind (arith, nat_tests)

pub le_is : (a b : ℕ) → a ≤ b → nat_le a b ≡ true
le_is a b h = grind (arith, nat_tests)

pub both : (a b : Bool) → a ≡ true → b ≡ true → (a && b) ≡ true
both true b h k = k
both false b h k = absurd (true≢false (sym h))

pub left : (a b : Bool) → a ≡ true → (a || b) ≡ true
left true b h = refl
left false b h = absurd (true≢false (sym h))

pub right : (a b : Bool) → b ≡ true → (a || b) ≡ true
right true b h = refl
right false b h = h

-- where the days of a range, or the stamp's day, lie in the days
meets_by : (day : ℕ) (last : Option (ℕ × Option ℕ)) (from to : ℕ) → from ≤ to → day ≤ to → from ≤ last_day day last → RangeMeets day last from to ⊎ ((from ≤ day) × (day ≤ to))
meets_by day None from to order high reach = inr (reach, high)
meets_by day (Some last) from to order high reach = elim (cases_lt day last.0) [
  | inl behind ↦
      let ends : last_day day (Some last) ≡ last.0 = ap (λ b. if b then last.0 else day) (lt-ltb day last.0 behind) in
      elim (cases_lt day from) [
        | inl before ↦ inl (from, omega (arith, before), omega (arith, reach, ends), omega arith, order)
        | inr within ↦ inr (within, high)
      ]
  | inr not_behind ↦
      let ends : last_day day (Some last) ≡ day = ap (λ b. if b then last.0 else day) (le-ltb day last.0 not_behind) in
      inr (omega (arith, reach, ends), high)
]

own_in : (day : ℕ) (last : Option (ℕ × Option ℕ)) → day ≤ last_day day last
own_in day None = omega arith
own_in day (Some last) = elim (cases_lt day last.0) [
  | inl behind ↦ let ends : last_day day (Some last) ≡ last.0 = ap (λ b. if b then last.0 else day) (lt-ltb day last.0 behind) in omega (arith, behind, ends)
  | inr not_behind ↦ let ends : last_day day (Some last) ≡ day = ap (λ b. if b then last.0 else day) (le-ltb day last.0 not_behind) in omega (arith, ends)
]

range_in : (day : ℕ) (last : Option (ℕ × Option ℕ)) (from to : ℕ) → RangeMeets day last from to → (day ≤ to) × (from ≤ last_day day last)
range_in day None from to h = absurd h
range_in day (Some last) from to h = elim (cases_lt day last.0) [
  | inl behind ↦ let ends : last_day day (Some last) ≡ last.0 = ap (λ b. if b then last.0 else day) (lt-ltb day last.0 behind) in (omega (arith, h.1, h.4), omega (arith, h.2, h.3, ends))
  | inr not_behind ↦ let ends : last_day day (Some last) ≡ day = ap (λ b. if b then last.0 else day) (le-ltb day last.0 not_behind) in (omega (arith, h.1, h.4), omega (arith, h.1, h.2, h.3, ends, not_behind))
]

-- whether it repeats, by its test and in words
some_is_there : {X : Type 0} (o : Option X) → is_some o ≡ true → o ≢ None
some_is_there None h = absurd (true≢false (sym h))
some_is_there (Some x) h = λ e. true≢false (ap is_some e)

there_is_some : {X : Type 0} (o : Option X) → o ≢ None → is_some o ≡ true
there_is_some None h = absurd (h refl)
there_is_some (Some x) h = refl

none_is : {X : Type 0} (o : Option X) → is_none o ≡ true → o ≡ None
none_is None h = refl
none_is (Some x) h = absurd (true≢false (sym h))

repeats_in_words : (p : Profile) (s : Stamp) → repeats p s ≡ true → Repeats p s
repeats_in_words One s h =
    let parts = and_parts (is_some s.repeater) (is_none s.last) h in
    (some_is_there s.repeater parts.0, none_is s.last parts.1)
repeats_in_words Two s h = some_is_there s.repeater h

repeats_by_words : (p : Profile) (s : Stamp) → Repeats p s → repeats p s ≡ true
repeats_by_words One s h = both (is_some s.repeater) (is_none s.last) (there_is_some s.repeater h.0) (ap is_none h.1)
repeats_by_words Two s h = there_is_some s.repeater h

module _ (p : Profile) (from to today : ℕ) (s : Stamp) (order : from ≤ to) where
  abbrev days_test : Bool
  days_test = nat_le s.day to && (repeats p s || nat_le from (last_day s.day s.last))

  abbrev delay_test : Bool
  delay_test = lies_in from to (s.day + delay_or 0 s.delay)

  abbrev warn_test : Bool
  warn_test = lies_in from to today && nat_le (s.day - delay_or 14 s.delay) today

  meant : IsTrue (is_near p from to today s) → IsNear p from to today s
  meant h = elim (or_cases (days_test || delay_test) warn_test h) [
    | inl some ↦ elim (or_cases days_test delay_test some) [
      | inl a ↦
          let t = and_parts (nat_le s.day to) (repeats p s || nat_le from (last_day s.day s.last)) a in
          let high : s.day ≤ to = le_of s.day to t.0 in
          elim (or_cases (repeats p s) (nat_le from (last_day s.day s.last)) t.1) [
            | inl again ↦ inl (repeats_in_words p s again, high)
            | inr reach ↦ elim (meets_by s.day s.last from to order high (le_of from (last_day s.day s.last) reach)) [
              | inl range ↦ inr (inl range)
              | inr own ↦ inr (inr (inl own))
            ]
          ]
      | inr a ↦
          let t = and_parts (nat_le from (s.day + delay_or 0 s.delay)) (nat_le (s.day + delay_or 0 s.delay) to) a in
          inr (inr (inr (inl (le_of from (s.day + delay_or 0 s.delay) t.0, le_of (s.day + delay_or 0 s.delay) to t.1))))
    ]
    | inr a ↦
        let t = and_parts (lies_in from to today) (nat_le (s.day - delay_or 14 s.delay) today) a in
        let q = and_parts (nat_le from today) (nat_le today to) t.0 in
        let soon : s.day - delay_or 14 s.delay ≤ today = le_of (s.day - delay_or 14 s.delay) today t.1 in
        inr (inr (inr (inr (le_of from today q.0, le_of today to q.1, omega (arith, soon)))))
  ]

  by_days : s.day ≤ to → (repeats p s || nat_le from (last_day s.day s.last)) ≡ true → IsTrue (is_near p from to today s)
  by_days high some = left (days_test || delay_test) warn_test (left days_test delay_test (both (nat_le s.day to) (repeats p s || nat_le from (last_day s.day s.last)) (le_is s.day to high) some))

  reaching : s.day ≤ to → from ≤ last_day s.day s.last → IsTrue (is_near p from to today s)
  reaching high reach = by_days high (right (repeats p s) (nat_le from (last_day s.day s.last)) (le_is from (last_day s.day s.last) reach))

  by_delay : from ≤ s.day + delay_or 0 s.delay → s.day + delay_or 0 s.delay ≤ to → IsTrue (is_near p from to today s)
  by_delay low high = left (days_test || delay_test) warn_test (right days_test delay_test (both (nat_le from (s.day + delay_or 0 s.delay)) (nat_le (s.day + delay_or 0 s.delay) to) (le_is from (s.day + delay_or 0 s.delay) low) (le_is (s.day + delay_or 0 s.delay) to high)))

  by_warning : from ≤ today → today ≤ to → s.day ≤ today + delay_or 14 s.delay → IsTrue (is_near p from to today s)
  by_warning low high soon = right (days_test || delay_test) warn_test (both (lies_in from to today) (nat_le (s.day - delay_or 14 s.delay) today) (both (nat_le from today) (nat_le today to) (le_is from today low) (le_is today to high)) (le_is (s.day - delay_or 14 s.delay) today (omega (arith, soon))))

  tested : IsNear p from to today s → IsTrue (is_near p from to today s)
  tested h = elim h [
    | inl again ↦ by_days again.1 (left (repeats p s) (nat_le from (last_day s.day s.last)) (repeats_by_words p s again.0))
    | inr h2 ↦ elim h2 [
      | inl range ↦ let r = range_in s.day s.last from to range in reaching r.0 r.1
      | inr h3 ↦ elim h3 [
        | inl own ↦ let own_last : s.day ≤ last_day s.day s.last = own_in s.day s.last in reaching own.1 (omega (arith, own.0, own_last))
        | inr h4 ↦ elim h4 [ inl later ↦ by_delay later.0 later.1 | inr soon ↦ by_warning soon.0 soon.1 soon.2 ]
      ]
    ]
  ]

pub near_is_meant : NearIsMeant
near_is_meant p from to today s order = (meant p from to today s order, tested p from to today s order)
