-- The readers and the grammar of stamps: what is read is a stamp, and every stamp is read.
use Rattle.std.proofs.Common.{◌≡◌, ℕ, suc, ◌+◌, ◌-◌, ◌<◌, ◌≤◌, ◌⊎◌, inl, inr, Bool, true, false, ◌==◌, ◌&&◌, if◌then◌else◌, List, [], ◌∷◌, ◌++◌, length, take, drop, get_or, refl, sym, subst, ◌∙◌, ap, arith, append_assoc, length-append, length-drop}
use Rattle.std.proofs.Math.Seq.{take-append-add}
use Rattle.std.specs.Prelude.{Option, Some, None, position, All, IfSome, IsSomeAnd}
use Rattle.std.specs.List.{position_or_len}
use Rattle.std.specs.Option.{option_map}
use Rattle.std.proofs.lemmas.List.{length-take-le, get_or-take, take_more, take-append-drop, take_at, drop_at, get_or_at}
use Rattle.std.proofs.lemmas.List.Elements.{All-head, All-tail, All-from_get_or}
use Rattle.std.proofs.lemmas.List.Sums.{fails_before_first}
use Rattle.std.proofs.lemmas.Option.{option_and_then_some}
use Rattle.org_cal.specs.Texts.{date_of}
use Rattle.org_stamp.specs.declared.stamp.Stamp.{Stamp}
use Rattle.org_stamp.specs.Inner.{inner_of, stamp_of_words, after_date, after_name, after_time, times_of, is_name}
use Rattle.org_stamp.proofs.InnerWords.{timed}
use Rattle.org_stamp.specs.Mark.{marks_from}
use Rattle.org_stamp.specs.Read.{single_of, closed, stamp_of, ranged, joined, same_bool}
use Rattle.org_stamp.specs.Stamp.{IsSingle, IsRange, IsStamp, open_of, close_of, is_close, with_last}
use Rattle.org_base.specs.Words.{is_space}
use Rattle.org_stamp.specs.Word.{words}

-- where a map of an option has a value, it is of a value
mapped : {A B P : Type 0} (f : A → B) (o : Option A) (y : B) → option_map f o ≡ Some y → ((x : A) → o ≡ Some x → f x ≡ y → P) → P
mapped f None y e k = absurd (cc)
mapped f (Some x) y e k = k x refl (cc)

-- which way a choice went
chosen : {A P : Type 0} (b : Bool) (x y z : A) → (if b then x else y) ≡ z → (b ≡ true → x ≡ z → P) → (b ≡ false → y ≡ z → P) → P
chosen true x y z e k h = k refl e
chosen false x y z e k h = h refl e

-- a stamp that is read has the brackets that it was read in
active_after_time : (a : Bool) (day : ℕ) (t e : Option ℕ) (ws : List (List ℕ)) (s : Stamp) → after_time a day t e ws ≡ Some s → s.active ≡ a
active_after_time a day t e ws s h = mapped _ (marks_from (None, None) ws) s h (λ m was is. sym (ap (λ (r : Stamp). r.active) is))

active_timed : (a : Bool) (day : ℕ) (w : List ℕ) (ws : List (List ℕ)) (o : Option (ℕ × Option ℕ)) (s : Stamp) → timed a day w ws o ≡ Some s → s.active ≡ a
active_timed a day w ws None s h = active_after_time a day None None (w ∷ ws) s h
active_timed a day w ws (Some t) s h = active_after_time a day (Some t.0) t.1 ws s h

active_after_name : (a : Bool) (day : ℕ) (ws : List (List ℕ)) (s : Stamp) → after_name a day ws ≡ Some s → s.active ≡ a
active_after_name a day [] s h = active_after_time a day None None [] s h
active_after_name a day (w ∷ ws) s h = active_timed a day w ws (times_of w) s h

active_after_date : (a : Bool) (day : ℕ) (ws : List (List ℕ)) (s : Stamp) → after_date a day ws ≡ Some s → s.active ≡ a
active_after_date a day [] s h = active_after_name a day [] s h
active_after_date a day (w ∷ ws) s h =
    chosen (is_name w) _ _ _ h (λ t e. active_after_name a day ws s e) (λ t e. active_after_name a day (w ∷ ws) s e)

active_words : (a : Bool) (ws : List (List ℕ)) (s : Stamp) → stamp_of_words a ws ≡ Some s → s.active ≡ a
active_words a [] s h = absurd (cc)
active_words a (w ∷ ws) s h = option_and_then_some _ (date_of w) s h (λ day was is. active_after_date a day ws s is)

pub active_inner : (a : Bool) (bs : List ℕ) (s : Stamp) → inner_of a bs ≡ Some s → s.active ≡ a
unfolding inner_of
active_inner a [] s h = absurd (cc)
active_inner a (b ∷ bs) s h = chosen (is_space b) _ _ _ h (λ t e. absurd (cc)) (λ t e. active_words a (words (b ∷ bs)) s e)

-- the first closing bracket
close_at : (inner rest : List ℕ) (c : ℕ) → is_close c ≡ true → All (λ b. is_close b ≡ false) inner → position_or_len is_close (inner ++ c ∷ rest) ≡ length inner
close_at [] rest c h all = rw h refl
close_at (b ∷ bs) rest c h all =
    let here : is_close b ≡ false = All-head (λ b. is_close b ≡ false) b bs all in
    let later = close_at bs rest c h (All-tail (λ b. is_close b ≡ false) b bs all) in
    rw here (omega (arith, later))

closes : (a : Bool) → is_close (close_of a) ≡ true
closes true = refl
closes false = refl

same_byte : (n : ℕ) → (n == n) ≡ true
same_byte n = grind arith

position_is : (p : ℕ → Bool) (xs : List ℕ) (i : ℕ) → position_or_len p xs ≡ i → i < length xs → position p xs ≡ Some i
position_is p xs i e lt = grind arith

position_some : (p : ℕ → Bool) (xs : List ℕ) (i : ℕ) → position p xs ≡ Some i → (position_or_len p xs ≡ i) × (i < length xs)
position_some p xs i e = grind arith

-- every stamp of one day is read at the front of what begins with it
closed_only : (a : Bool) (inner rest : List ℕ) (s : Stamp) → All (λ b. is_close b ≡ false) inner → inner_of a inner ≡ Some s → closed a (inner ++ close_of a ∷ rest) (position is_close (inner ++ close_of a ∷ rest)) ≡ Some (s, length inner + 2)
closed_only a inner rest s all is =
    let at = close_at inner rest (close_of a) (closes a) all in
    let long : length inner < length (inner ++ close_of a ∷ rest) = omega (arith, length-append inner (close_of a ∷ rest)) in
    let where_is : position is_close (inner ++ close_of a ∷ rest) ≡ Some (length inner) =
    position_is is_close (inner ++ close_of a ∷ rest) (length inner) at long in
    let byte : get_or (inner ++ close_of a ∷ rest) (length inner) 0 ≡ close_of a = get_or_at inner (close_of a) rest 0 (length inner) refl in
    let front : take (length inner) (inner ++ close_of a ∷ rest) ≡ inner = take_at inner (close_of a ∷ rest) (length inner) refl in
    rw (where_is, byte, same_byte (close_of a), front, is) refl

single_of-open : (a : Bool) (bs : List ℕ) → single_of (open_of a ∷ bs) ≡ closed a bs (position is_close bs)
unfolding single_of
single_of-open true bs = refl
single_of-open false bs = refl

pub single_only : (bytes rest : List ℕ) (s : Stamp) → IsSingle bytes s → single_of (bytes ++ rest) ≡ Some (s, length bytes)
single_only bytes rest s h =
    let a = s.active in
    let inner = h.inner in
    let whole : bytes ++ rest ≡ open_of a ∷ (inner ++ close_of a ∷ rest) =
    ap (λ b. b ++ rest) h.bytes_is ∙ ap (λ t. open_of a ∷ t) (append_assoc inner (close_of a ∷ []) rest) in
    let long : length inner + 2 ≡ length bytes = omega (arith, ap length h.bytes_is, length-append inner (close_of a ∷ [])) in
    ap single_of whole
    ∙ (single_of-open a (inner ++ close_of a ∷ rest)
    ∙ (closed_only a inner rest s h.no_close h.stamp_is ∙ ap (λ n. Some (s, n)) long))

eq_from_test : (m n : ℕ) → (m == n) ≡ true → m ≡ n
eq_from_test m n e = grind arith

none_some : {A : Type 0} {x : A} → None ≡ Some x → ⊥
none_some e = cc

no_close_before : (bs : List ℕ) (i : ℕ) → position_or_len is_close bs ≡ i → i < length bs → All (λ b. is_close b ≡ false) (take i bs)
no_close_before bs i e lt =
    All-from_get_or (λ b. is_close b ≡ false) (take i bs) 0
    (λ k below.
    let k_lt : k < i = omega (arith, below, length-take-le i bs (omega arith)) in
    ap is_close (get_or-take i bs k 0 k_lt) ∙ fails_before_first is_close bs k 0 (omega (arith, k_lt, e)))

-- and what is read is a stamp of one day
closed_found : (a : Bool) (bs : List ℕ) (s : Stamp) (n : ℕ) (o : Option ℕ) → position is_close bs ≡ o → closed a bs o ≡ Some (s, n) → (n ≤ suc (length bs)) × IsSingle (take n (open_of a ∷ bs)) s
closed_found a bs s n None p h = absurd (none_some h)
closed_found a bs s n (Some i) p h =
    let at = position_some is_close bs i p in
    chosen (get_or bs i 0 == close_of a) _ _ _ h
    (λ byte is. mapped _ (inner_of a (take i bs)) (s, n) is (λ found was same.
    let stamp : found ≡ s = ap (λ (r : Stamp × ℕ). r.0) same in
    let long : i + 2 ≡ n = ap (λ (r : Stamp × ℕ). r.1) same in
    let inside : inner_of a (take i bs) ≡ Some s = was ∙ ap Some stamp in
    let active : s.active ≡ a = active_inner a (take i bs) s inside in
    let close : get_or bs i 0 ≡ close_of a = eq_from_test (get_or bs i 0) (close_of a) byte in
    let after : n ≡ suc (i + 1) = omega (arith, long) in
    let front : take n (open_of a ∷ bs) ≡ open_of a ∷ (take i bs ++ close_of a ∷ []) =
    ap (λ k. take k (open_of a ∷ bs)) after ∙ (ap (λ t. open_of a ∷ t) (take_more bs i 0 at.1) ∙ ap (λ c. open_of a ∷ (take i bs ++ c ∷ [])) close) in (
      omega (arith, long, at.1),
      record {
        inner = take i bs;
        bytes_is = front ∙ ap (λ b. open_of b ∷ (take i bs ++ close_of b ∷ [])) (sym active);
        no_close = no_close_before bs i at.0 at.1;
        stamp_is = ap (λ b. inner_of b (take i bs)) active ∙ inside;
      },
    )))
    (λ byte is. absurd (none_some is))

opened : (a : Bool) (b : ℕ) (bs : List ℕ) (s : Stamp) (n : ℕ) → b ≡ open_of a → closed a bs (position is_close bs) ≡ Some (s, n) → (n ≤ suc (length bs)) × IsSingle (take n (b ∷ bs)) s
opened a b bs s n byte is =
    let found = closed_found a bs s n (position is_close bs) refl is in
    (found.0, subst (λ (c : ℕ). IsSingle (take n (c ∷ bs)) s) (sym byte) found.1)

pub single_found : (bytes : List ℕ) (s : Stamp) (n : ℕ) → single_of bytes ≡ Some (s, n) → (n ≤ length bytes) × IsSingle (take n bytes) s
unfolding single_of
single_found [] s n h = absurd (none_some h)
single_found (b ∷ bs) s n h =
    chosen (b == 60) _ _ _ h
    (λ byte is. opened true b bs s n (eq_from_test b 60 byte) is)
    (λ no is. chosen (b == 91) _ _ _ is (λ byte is. opened false b bs s n (eq_from_test b 91 byte) is) (λ no is. absurd (none_some is)))

-- what is answered for a stamp and what follows it
record Joined (f : Stamp) (j : ℕ) (rest : List ℕ) (s : Stamp) (n : ℕ) : Type 0 where
  pub back : List ℕ
  pub second : Stamp
  pub more : ℕ
  pub rest_is : rest ≡ 45 ∷ 45 ∷ back
  pub second_is : single_of back ≡ Some (second, more)
  pub same_brackets : second.active ≡ f.active
  pub stamp_is : s ≡ with_last f second
  pub length_is : n ≡ j + 2 + more

same_bool_is : (a b : Bool) → same_bool a b ≡ true → b ≡ a
same_bool_is true true e = refl
same_bool_is true false e = cc
same_bool_is false true e = cc
same_bool_is false false e = refl

same_bool-same : (a b : Bool) → b ≡ a → same_bool a b ≡ true
same_bool-same true true e = refl
same_bool-same true false e = cc
same_bool-same false true e = cc
same_bool-same false false e = refl

test_is : (a b : ℕ) → ((a == 45) && (b == 45)) ≡ true → (a ≡ 45) × (b ≡ 45)
test_is a b e = (grind arith, grind arith)

joined_found : (f : Stamp) (j : ℕ) (back : List ℕ) (o : Option (Stamp × ℕ)) (s : Stamp) (n : ℕ) → single_of back ≡ o → joined f j o ≡ (s, n) → ((f ≡ s) × (j ≡ n)) ⊎ Joined f j (45 ∷ 45 ∷ back) s n
joined_found f j back None s n was h = inl (ap (λ (r : Stamp × ℕ). r.0) h, ap (λ (r : Stamp × ℕ). r.1) h)
joined_found f j back (Some t) s n was h =
    chosen (same_bool f.active t.0.active) _ _ _ h
    (λ same is. inr (record {
      back = back;
      second = t.0;
      more = t.1;
      rest_is = refl;
      second_is = was;
      same_brackets = same_bool_is f.active t.0.active same;
      stamp_is = sym (ap (λ (r : Stamp × ℕ). r.0) is);
      length_is = sym (ap (λ (r : Stamp × ℕ). r.1) is);
    }))
    (λ other is. inl (ap (λ (r : Stamp × ℕ). r.0) is, ap (λ (r : Stamp × ℕ). r.1) is))

ranged_found : (f : Stamp) (j : ℕ) (rest : List ℕ) (s : Stamp) (n : ℕ) → ranged f j rest ≡ (s, n) → ((f ≡ s) × (j ≡ n)) ⊎ Joined f j rest s n
ranged_found f j [] s n h = inl (ap (λ (r : Stamp × ℕ). r.0) h, ap (λ (r : Stamp × ℕ). r.1) h)
ranged_found f j (a ∷ []) s n h = inl (ap (λ (r : Stamp × ℕ). r.0) h, ap (λ (r : Stamp × ℕ). r.1) h)
ranged_found f j (a ∷ b ∷ back) s n h =
    chosen ((a == 45) && (b == 45)) _ _ _ h
    (λ dashes is.
    let two = test_is a b dashes in
    subst (λ (x : ℕ). ((f ≡ s) × (j ≡ n)) ⊎ Joined f j (x ∷ b ∷ back) s n) (sym two.0)
    (subst (λ (y : ℕ). ((f ≡ s) × (j ≡ n)) ⊎ Joined f j (45 ∷ y ∷ back) s n) (sym two.1)
    (joined_found f j back (single_of back) s n refl is)))
    (λ no is. inl (ap (λ (r : Stamp × ℕ). r.0) is, ap (λ (r : Stamp × ℕ). r.1) is))

-- what is read is a stamp
found_range : (bytes : List ℕ) (f s : Stamp) (j n : ℕ) → single_of bytes ≡ Some (f, j) → Joined f j (drop j bytes) s n → (n ≤ length bytes) × IsStamp (take n bytes) s
found_range bytes f s j n first h =
    let front = single_found bytes f j first in
    let back = single_found h.back h.second h.more h.second_is in
    let rest_length : length bytes - j ≡ 2 + length h.back = omega (arith, length-drop j bytes, ap length h.rest_is) in
    let split : bytes ≡ take j bytes ++ 45 ∷ 45 ∷ h.back = sym (take-append-drop j bytes) ∙ ap (λ t. take j bytes ++ t) h.rest_is in
    let long : n ≡ length (take j bytes) + suc (suc h.more) = omega (arith, h.length_is, length-take-le j bytes front.0) in
    let whole : take n bytes ≡ take j bytes ++ 45 ∷ 45 ∷ take h.more h.back =
    ap (λ b. take n b) split
    ∙ (ap (λ k. take k (take j bytes ++ 45 ∷ 45 ∷ h.back)) long
    ∙ take-append-add (take j bytes) (45 ∷ 45 ∷ h.back) (suc (suc h.more))) in (
      omega (arith, h.length_is, rest_length, back.0, front.0),
      inr (record {
        front = take j bytes;
        back = take h.more h.back;
        first = f;
        second = h.second;
        bytes_is = whole;
        first_is = front.1;
        second_is = back.1;
        same_brackets = h.same_brackets;
        stamp_is = h.stamp_is;
      }),
    )

pub stamp_found : (bytes : List ℕ) (s : Stamp) (n : ℕ) → stamp_of bytes ≡ Some (s, n) → (n ≤ length bytes) × IsStamp (take n bytes) s
stamp_found bytes s n h =
    mapped (λ (r : Stamp × ℕ). ranged r.0 r.1 (drop r.1 bytes)) (single_of bytes) (s, n) h (λ first was is.
    elim (ranged_found first.0 first.1 (drop first.1 bytes) s n is) [
      | inl alone ↦
          let found = single_found bytes first.0 first.1 was in
          (omega (arith, found.0, alone.1), inl (subst (λ (k : ℕ). IsSingle (take k bytes) s) alone.1 (subst (λ (t : Stamp). IsSingle (take first.1 bytes) t) alone.0 found.1)))
      | inr two ↦ found_range bytes first.0 s first.1 n was two
    ])

-- an answer is at least as long as the first stamp, and is that where it is as long
ranged_from : (f : Stamp) (j : ℕ) (rest : List ℕ) → (j ≤ (ranged f j rest).1) × (j ≡ (ranged f j rest).1 → f ≡ (ranged f j rest).0)
ranged_from f j rest =
    elim (ranged_found f j rest (ranged f j rest).0 (ranged f j rest).1 refl) [
      | inl alone ↦ (omega (arith, alone.1), λ same. alone.0)
      | inr two ↦ (omega (arith, two.length_is), λ same. absurd (omega (arith, two.length_is, same)))
    ]

-- a stamp of one day at the front is read, or a range that begins with it
longest_single : (bytes rest : List ℕ) (s : Stamp) → IsSingle bytes s → IsSomeAnd (stamp_of (bytes ++ rest)) (λ r. (length bytes ≤ r.1) × (length bytes ≡ r.1 → s ≡ r.0))
longest_single bytes rest s h =
    subst (λ (o : Option (Stamp × ℕ)). IsSomeAnd (option_map (λ r. ranged r.0 r.1 (drop r.1 (bytes ++ rest))) o) (λ r. (length bytes ≤ r.1) × (length bytes ≡ r.1 → s ≡ r.0)))
    (sym (single_only bytes rest s h)) (ranged_from s (length bytes) (drop (length bytes) (bytes ++ rest)))

-- a range at the front is read
longest_range : (bytes rest : List ℕ) (s : Stamp) → IsRange bytes s → stamp_of (bytes ++ rest) ≡ Some (s, length bytes)
longest_range bytes rest s h =
    let regrouped : bytes ++ rest ≡ h.front ++ (45 ∷ 45 ∷ (h.back ++ rest)) =
    ap (λ b. b ++ rest) h.bytes_is ∙ append_assoc h.front (45 ∷ 45 ∷ h.back) rest in
    let first = single_only h.front (45 ∷ 45 ∷ (h.back ++ rest)) h.first h.first_is in
    let second = single_only h.back rest h.second h.second_is in
    let after : drop (length h.front) (h.front ++ (45 ∷ 45 ∷ (h.back ++ rest))) ≡ 45 ∷ 45 ∷ (h.back ++ rest) =
    drop_at h.front (45 ∷ 45 ∷ (h.back ++ rest)) (length h.front) refl in
    let same = same_bool-same h.first.active h.second.active h.same_brackets in
    let long : length h.front + 2 + length h.back ≡ length bytes = omega (arith, ap length h.bytes_is, length-append h.front (45 ∷ 45 ∷ h.back)) in
    ap stamp_of regrouped
    ∙ (ap (λ (o : Option (Stamp × ℕ)). option_map (λ r. ranged r.0 r.1 (drop r.1 (h.front ++ (45 ∷ 45 ∷ (h.back ++ rest))))) o) first
    ∙ (ap (λ (t : List ℕ). Some (ranged h.first (length h.front) t)) after
    ∙ (ap (λ (o : Option (Stamp × ℕ)). Some (joined h.first (length h.front) o)) second
    ∙ (ap (λ (b : Bool). Some (if b then (with_last h.first h.second, length h.front + 2 + length h.back) else (h.first, length h.front))) same
    ∙ (ap (λ (k : ℕ). Some (with_last h.first h.second, k)) long ∙ ap (λ (t : Stamp). Some (t, length bytes)) (sym h.stamp_is))))))

-- every stamp at the front is read, or a longer one
pub stamp_longest : (bytes rest : List ℕ) (s : Stamp) → IsStamp bytes s → IsSomeAnd (stamp_of (bytes ++ rest)) (λ r. (length bytes ≤ r.1) × (length bytes ≡ r.1 → s ≡ r.0))
stamp_longest bytes rest s (inl one) = longest_single bytes rest s one
stamp_longest bytes rest s (inr two) =
    subst (λ (o : Option (Stamp × ℕ)). IsSomeAnd o (λ r. (length bytes ≤ r.1) × (length bytes ≡ r.1 → s ≡ r.0))) (sym (longest_range bytes rest s two)) (omega arith, λ same. refl)

pub found_at : (r : Option (Stamp × ℕ)) (bytes : List ℕ) → r ≡ stamp_of bytes → IfSome r (λ found. IsStamp (take found.1 bytes) found.0)
found_at None bytes e = tt
found_at (Some found) bytes e = (stamp_found bytes found.0 found.1 (sym e)).1

pub single_at : (r : Option (Stamp × ℕ)) (bytes : List ℕ) → r ≡ single_of bytes → IfSome r (λ found. IsSingle (take found.1 bytes) found.0)
single_at None bytes e = tt
single_at (Some found) bytes e = (single_found bytes found.0 found.1 (sym e)).1
