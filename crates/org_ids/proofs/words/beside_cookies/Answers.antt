-- A byte of a cookie is left out, or stands as a space, or isn't one.
use Rattle.std.proofs.Common.{◌≡◌, ◌∙◌, ℕ, ◌+◌, ◌-◌, ◌<◌, ◌≤◌, List, [], ◌∷◌, ◌++◌, length, get_or, take, drop, sym, ap, add-one, append_assoc, drop-cons, arith}
use Rattle.std.proofs.lemmas.List.{take_rest}
use Rattle.org_ids.specs.Words.{beside_cookies, cookie_length}
use Rattle.org_ids.proofs.WordLemmas.{at_byte, at_cookie, within_cookie}
use Rattle.org_ids.proofs.words.beside_cookies.Goals as goal
use Rattle.org_ids.proofs.words.beside_cookies.Goals.{then-left-gt0, else-left-gt0+then-length-gt0+in_ok-push, else-left-gt0+else-length-gt0+in_ok-push-2}

module _ (out title : List ℕ) (left place : ℕ) (there : place < length title) where
  here : drop place title ≡ get_or title place 0 ∷ drop (place + 1) title
  here = rw (add-one, drop-cons title place 0)

  of_cookie : 0 < left → out ++ beside_cookies left (drop place title) ≡ beside_cookies 0 title →
      out ++ beside_cookies (left - 1) (drop (place + 1) title) ≡ beside_cookies 0 title
  of_cookie some before =
      ap (λ (x : List ℕ). out ++ x) (sym (ap (beside_cookies left) here ∙ within_cookie left (get_or title place 0) (drop (place + 1) title) some)) ∙ before

  length_is : (n : ℕ) → n ≡ cookie_length (take (length title - place) (drop place title)) → n ≡ cookie_length (get_or title place 0 ∷ drop (place + 1) title)
  length_is n e = e ∙ ap cookie_length (take_rest title place ∙ here)

  at_none : left ≤ 0 → beside_cookies left (drop place title) ≡ beside_cookies 0 (get_or title place 0 ∷ drop (place + 1) title)
  at_none none =
      let e : left ≡ 0 = omega (arith, none) in
      λ i. beside_cookies (e i) (here i)

  of_first : (n : ℕ) → left ≤ 0 → n ≡ cookie_length (take (length title - place) (drop place title)) → 0 < n →
      out ++ beside_cookies left (drop place title) ≡ beside_cookies 0 title →
      (out ++ 32 ∷ []) ++ beside_cookies (n - 1) (drop (place + 1) title) ≡ beside_cookies 0 title
  of_first n none e some before =
      append_assoc out (32 ∷ []) (beside_cookies (n - 1) (drop (place + 1) title))
      ∙ ap (λ (x : List ℕ). out ++ x) (sym (at_none none ∙ at_cookie n (get_or title place 0) (drop (place + 1) title) (length_is n e) some))
      ∙ before

  of_other : (n : ℕ) → left ≤ 0 → n ≡ cookie_length (take (length title - place) (drop place title)) → n ≤ 0 →
      out ++ beside_cookies left (drop place title) ≡ beside_cookies 0 title →
      (out ++ get_or title place 0 ∷ []) ++ beside_cookies left (drop (place + 1) title) ≡ beside_cookies 0 title
  of_other n none e other before =
      let zero : left ≡ 0 = omega (arith, none) in
      ap (λ (k : ℕ). (out ++ get_or title place 0 ∷ []) ++ beside_cookies k (drop (place + 1) title)) zero
      ∙ append_assoc out (get_or title place 0 ∷ []) (beside_cookies 0 (drop (place + 1) title))
      ∙ ap (λ (x : List ℕ). out ++ x) (sym (at_none none ∙ at_byte n (get_or title place 0) (drop (place + 1) title) (length_is n e) other))
      ∙ before

pub loop-place-preserved : goal.loop-place-preserved
loop-place-preserved c =
    let title = c.args.title.now in
    let rest : List ℕ = drop (c.loop-place.place + 1) title in
    let out : List ℕ = c.loop-place.out.items in
    elim c.if-left-gt0.branch [
      | then-left-gt0 w ↦
          (λ i. (w.out-is i).items ++ beside_cookies (w.left-is i) rest)
          ∙ of_cookie out title c.loop-place.left c.loop-place.place c.loop-place-test.true w.if-left-gt0.true c.loop-place.invariant
      | else-left-gt0+then-length-gt0+in_ok-push w ↦
          (λ i. (w.out-is i).items ++ beside_cookies (w.left-is i) rest)
          ∙ ap (λ (x : List ℕ). x ++ beside_cookies (w.cookie_length-length.result - 1) rest) w.in_ok-push.ensures.items
          ∙ of_first out title c.loop-place.left c.loop-place.place c.loop-place-test.true w.cookie_length-length.result
          w.if-left-gt0.false w.cookie_length-length.ensures.value w.if-length-gt0.true c.loop-place.invariant
      | else-left-gt0+else-length-gt0+in_ok-push-2 w ↦
          (λ i. (w.out-is i).items ++ beside_cookies (w.left-is i) rest)
          ∙ ap (λ (x : List ℕ). x ++ beside_cookies c.loop-place.left rest) w.in_ok-push-2.ensures.items
          ∙ of_other out title c.loop-place.left c.loop-place.place c.loop-place-test.true w.cookie_length-length.result
          w.if-left-gt0.false w.cookie_length-length.ensures.value w.if-length-gt0.false c.loop-place.invariant
    ]
