-- What being near means.
use Rattle.std.proofs.Common.{◌≡◌, ◌⊎◌, ℕ, ◌+◌, ◌-◌, ◌≤◌, Bool, true, ◌&&◌, IsTrue, inl, inr, refl, sym, true≢false, arith}
use Rattle.std.specs.Prelude.{nat_le}
use Rattle.std.proofs.lemmas.Bool.{and_parts, or_cases}
use Rattle.org_base.specs.declared.profile.Profile.{Profile}
use Rattle.org_entry.specs.declared.active.Role.{Role}
use Rattle.org_entry.specs.declared.active.Role.TheVariants.{Deadline, Plain, Scheduled}
use Rattle.org_index.specs.Delays.{delay_or}
use Rattle.org_index.specs.Laws.{IsNear}
use Rattle.org_index.specs.Near.{lies_in, touches, warns}
use Rattle.org_index.specs.Reaches.{reach_of}
use Rattle.org_index.proofs.MeantLemmas.{both, le_is, le_of, left, near_is_meant as stamp_is_near, right}
use Rattle.org_agenda.specs.Near.{is_near, is_planned, is_reminding}
use Rattle.org_agenda.specs.Rules.{NearIsMeant, Reminds, TouchesDays}
use Rattle.org_agenda.specs.declared.source.HeadingStamp.{HeadingStamp}

planned_in_words : (r : Role) → is_planned r ≡ true → (r ≡ Scheduled) ⊎ (r ≡ Deadline)
planned_in_words Plain h = absurd (true≢false (sym h))
planned_in_words Scheduled h = inl refl
planned_in_words Deadline h = inr refl

planned_by_words : (r : Role) → (r ≡ Scheduled) ⊎ (r ≡ Deadline) → is_planned r ≡ true
planned_by_words r h = elim h [ inl e ↦ rw e refl | inr e ↦ rw e refl ]

module _ (p : Profile) (from to today : ℕ) (s : HeadingStamp) (order : from ≤ to) where
  abbrev touch_test : Bool
  touch_test = touches from to (reach_of p s.stamp)

  abbrev warn_test : Bool
  warn_test = warns from to today (reach_of p s.stamp)

  -- on the day after the last none is warned of
  abbrev never : Bool
  never = warns from to (to + 1) (reach_of p s.stamp)

  never_warns : IsTrue never → ⊥
  never_warns h =
      let t = and_parts (lies_in from to (to + 1)) (nat_le (s.stamp.day - delay_or 14 s.stamp.delay) (to + 1)) h in
      let q = and_parts (nat_le from (to + 1)) (nat_le (to + 1) to) t.0 in
      let high : to + 1 ≤ to = le_of (to + 1) to q.1 in
      omega (arith, high)

  in_words : IsNear p from to (to + 1) s.stamp → TouchesDays p from to s.stamp
  in_words h = elim h [
    | inl again ↦ inl again
    | inr h2 ↦ elim h2 [
      | inl range ↦ inr (inl range)
      | inr h3 ↦ elim h3 [
        | inl own ↦ inr (inr (inl own))
        | inr h4 ↦ elim h4 [
          | inl later ↦ inr (inr (inr later))
          | inr soon ↦ absurd (let high : to + 1 ≤ to = soon.1 in omega (arith, high))
        ]
      ]
    ]
  ]

  by_words : TouchesDays p from to s.stamp → IsNear p from to (to + 1) s.stamp
  by_words h = elim h [
    | inl again ↦ inl again
    | inr h2 ↦ elim h2 [
      | inl range ↦ inr (inl range)
      | inr h3 ↦ elim h3 [ inl own ↦ inr (inr (inl own)) | inr later ↦ inr (inr (inr (inl later))) ]
    ]
  ]

  touches_in_words : IsTrue touch_test → TouchesDays p from to s.stamp
  touches_in_words h = in_words ((stamp_is_near p from to (to + 1) s.stamp order).0 (left touch_test never h))

  touches_by_words : TouchesDays p from to s.stamp → IsTrue touch_test
  touches_by_words h = elim (or_cases touch_test never ((stamp_is_near p from to (to + 1) s.stamp order).1 (by_words h))) [
    | inl some ↦ some
    | inr warned ↦ absurd (never_warns warned)
  ]

  reminds_in_words : IsTrue (is_reminding s && warn_test) → Reminds from to today s
  reminds_in_words h =
      let a = and_parts (is_reminding s) warn_test h in
      let r = and_parts (is_planned s.role) s.owner.is_open a.0 in
      let w = and_parts (lies_in from to today) (nat_le (s.stamp.day - delay_or 14 s.stamp.delay) today) a.1 in
      let d = and_parts (nat_le from today) (nat_le today to) w.0 in
      let soon : s.stamp.day - delay_or 14 s.stamp.delay ≤ today = le_of (s.stamp.day - delay_or 14 s.stamp.delay) today w.1 in
      record { planned = planned_in_words s.role r.0; undone = r.1; first = le_of from today d.0; last = le_of today to d.1; soon = omega (arith, soon) }

  reminds_by_words : Reminds from to today s → IsTrue (is_reminding s && warn_test)
  reminds_by_words h =
      let soon : s.stamp.day ≤ today + delay_or 14 s.stamp.delay = h.soon in
      both (is_reminding s) warn_test (both (is_planned s.role) s.owner.is_open (planned_by_words s.role h.planned) h.undone)
      (both (lies_in from to today) (nat_le (s.stamp.day - delay_or 14 s.stamp.delay) today)
      (both (nat_le from today) (nat_le today to) (le_is from today h.first) (le_is today to h.last))
      (le_is (s.stamp.day - delay_or 14 s.stamp.delay) today (omega (arith, soon))))

  meant : IsTrue (is_near p from to today s) → TouchesDays p from to s.stamp ⊎ Reminds from to today s
  meant h = elim (or_cases touch_test (is_reminding s && warn_test) h) [ inl some ↦ inl (touches_in_words some) | inr warned ↦ inr (reminds_in_words warned) ]

  tested : TouchesDays p from to s.stamp ⊎ Reminds from to today s → IsTrue (is_near p from to today s)
  tested h = elim h [
    | inl some ↦ left touch_test (is_reminding s && warn_test) (touches_by_words some)
    | inr warned ↦ right touch_test (is_reminding s && warn_test) (reminds_by_words warned)
  ]

pub near_is_meant : NearIsMeant
near_is_meant p from to today s order = (meant p from to today s order, tested p from to today s order)
