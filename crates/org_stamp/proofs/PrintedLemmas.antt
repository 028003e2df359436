-- A printed stamp is a stamp of the grammar.
use Rattle.std.proofs.Common.{◌≡◌, ℕ, ◌+◌, ◌/◌, ◌%◌, ◌<◌, ◌≤◌, inl, inr, Bool, true, false, if◌then◌else◌, List, [], ◌∷◌, ◌++◌, refl, sym, subst, ◌∙◌, ap, arith, append_assoc, codes}
use Rattle.std.specs.Prelude.{Option, Some, None, decimal, IfSome, IfNone, IsSomeAnd, All, length}
use Rattle.std.proofs.lemmas.Bool.{cases_lt}
use Rattle.std.proofs.lemmas.List.{append-nil}
use Rattle.std.proofs.lemmas.Fmt.{decimal_digit}
use Rattle.org_cal.specs.declared.unit.Unit.{Unit as TimeUnit}
use Rattle.org_cal.specs.declared.unit.Unit.TheVariants.{Hour, Day, Week, Month, Year}
use Rattle.org_cal.specs.Days.{IsDay}
use Rattle.org_cal.specs.Parts.{year_of, month_of, month_day_of, weekday_of}
use Rattle.org_cal.specs.Texts.{time_text, parts_text, date_text, day_name}
use Rattle.org_cal.proofs.PartLemmas.{date_holds}
use Rattle.org_cal.proofs.TextLemmas.{day_bounds}
use Rattle.org_stamp.specs.declared.mark.Delay.{Delay}
use Rattle.org_stamp.specs.declared.mark.RepeaterKind.{RepeaterKind}
use Rattle.org_stamp.specs.declared.mark.RepeaterKind.TheVariants.{Plain, Future, Today}
use Rattle.org_stamp.specs.declared.mark.Repeater.{Repeater}
use Rattle.org_stamp.specs.declared.stamp.Stamp.{Stamp}
use Rattle.org_stamp.specs.CanPrint.{IsRepeater, CanPrint}
use Rattle.org_stamp.specs.Inner.{inner_of, stamp_of_words}
use Rattle.org_stamp.specs.Print.{letter, sign_text, amount_text, repeater_text, delay_text, times_text, tail_text, single_text, last_text, stamp_text}
use Rattle.org_stamp.proofs.PrintWords.{limit_text, end_text}
use Rattle.org_stamp.specs.Read.{stamp_of}
use Rattle.org_stamp.specs.Stamp.{IsSingle, IsRange, IsStamp, open_of, close_of, is_close}
use Rattle.org_stamp.specs.Word.{is_word, words}
use Rattle.std.proofs.lemmas.List.Elements.{All-nil, All-cons}
use Rattle.org_stamp.proofs.WholeLemmas.{named, clean_day, words-again}
use Rattle.org_stamp.proofs.PrintLemmas.{decimal_two, decimal_three, decimal_four}
use Rattle.org_stamp.proofs.AgainLemmas.{Clean}
use Rattle.org_stamp.proofs.CanPrintLemmas.{can_print}
use Rattle.org_stamp.proofs.ReadLemmas.{stamp_found, stamp_longest}

-- no closing bracket
abbrev Open : List ℕ → Type 0
Open [] = Unit {0}
Open (b ∷ bs) = (is_close b ≡ false) × Open bs

no_closing : (n : ℕ) → n < 10 → is_close (48 + n) ≡ false
no_closing n h = grind arith

open-append : (a b : List ℕ) → Open a → Open b → Open (a ++ b)
open-append [] b c d = d
open-append (x ∷ xs) b c d = (c.0, open-append xs b c.1 d)

open_decimal : (n : ℕ) → n < 10000 → Open (decimal n)
open_decimal n h =
    elim (cases_lt n 10) [
      | inl a ↦ subst Open (sym (decimal_digit n a)) (no_closing n a, tt)
      | inr a ↦ elim (cases_lt n 100) [
        | inl b ↦ subst Open (sym (decimal_two n a b)) (no_closing (n / 10) (omega arith), (no_closing (n % 10) (omega arith), tt))
        | inr b ↦ elim (cases_lt n 1000) [
          | inl c ↦ subst Open (sym (decimal_three n b c)) (no_closing (n / 10 / 10) (omega arith), (no_closing (n / 10 % 10) (omega arith), (no_closing (n % 10) (omega arith), tt)))
          | inr c ↦ subst Open (sym (decimal_four n c h)) (no_closing (n / 10 / 10 / 10) (omega arith), (no_closing (n / 10 / 10 % 10) (omega arith), (no_closing (n / 10 % 10) (omega arith), (no_closing (n % 10) (omega arith), tt))))
        ]
      ]
    ]

open_letter : (u : TimeUnit) → is_close (letter u) ≡ false
open_letter Hour = refl
open_letter Day = refl
open_letter Week = refl
open_letter Month = refl
open_letter Year = refl

open_amount : (n : ℕ) (u : TimeUnit) → n < 10000 → Open (amount_text (n, u))
open_amount n u h = open-append (decimal n) (letter u ∷ []) (open_decimal n h) (open_letter u, tt)

open_time : (c : ℕ) → c < 1440 → Open (time_text c)
open_time c h = (no_closing (c / 60 / 10) (omega arith), (no_closing (c / 60 % 10) (omega arith), (refl, (no_closing (c % 60 / 10) (omega arith), (no_closing (c % 60 % 10) (omega arith), tt)))))

open_end : (e : Option ℕ) → IfSome e (λ c. c < 1440) → Open (end_text e)
open_end None h = tt
open_end (Some c) h = (refl, open_time c h)

open_limit : (l : Option (ℕ × TimeUnit)) → IfSome l (λ a. a.0 < 10000) → Open (limit_text l)
open_limit None h = tt
open_limit (Some a) h = (refl, open_amount a.0 a.1 h)

open_sign : (k : RepeaterKind) → Open (sign_text k)
open_sign Plain = (refl, tt)
open_sign Future = (refl, (refl, tt))
open_sign Today = (refl, (refl, tt))

open_date : (y m d : ℕ) → y < 10000 → m < 100 → d < 100 → Open (parts_text y m d)
open_date y m d hy hm hd = (
  no_closing (y / 100 / 10) (omega arith),
  (
    no_closing (y / 100 % 10) (omega arith),
    (
      no_closing (y % 100 / 10) (omega arith),
      (
        no_closing (y % 100 % 10) (omega arith),
        (
          refl,
          (
            no_closing (m / 10) (omega arith),
            (
              no_closing (m % 10) (omega arith),
              (refl, (no_closing (d / 10) (omega arith), (no_closing (d % 10) (omega arith), tt))),
            ),
          ),
        ),
      ),
    ),
  ),
)

name_open : (n : ℕ) → Open (day_name n)
name_open n = named Open (refl, (refl, (refl, tt))) (refl, (refl, (refl, tt))) (refl, (refl, (refl, tt))) (refl, (refl, (refl, tt))) (refl, (refl, (refl, tt))) (refl, (refl, (refl, tt))) (refl, (refl, (refl, tt))) n

open_wait : (b : Bool) → Open (if b then codes "--" else codes "-")
open_wait true = (refl, (refl, tt))
open_wait false = (refl, tt)

open_times : (t e : Option ℕ) → IfSome t (λ c. c < 1440) → IfSome e (λ c. c < 1440) → Open (times_text t e)
open_times None e h g = tt
open_times (Some c) e h g = (refl, open-append (time_text c) (end_text e) (open_time c h) (open_end e g))

open_repeater : (r : Option Repeater) → IfSome r IsRepeater → Open (repeater_text r)
open_repeater None h = tt
open_repeater (Some r) h = (
  refl,
  open-append (sign_text r.kind ++ amount_text (r.n, r.unit)) (limit_text r.limit)
      (open-append (sign_text r.kind) (amount_text (r.n, r.unit)) (open_sign r.kind) (open_amount r.n r.unit h.few))
      (open_limit r.limit h.limit_few),
)

open_delay : (d : Option Delay) → IfSome d (λ x. x.n < 10000) → Open (delay_text d)
open_delay None h = tt
open_delay (Some d) h =
    (refl, open-append (if d.first_only then codes "--" else codes "-") (amount_text (d.n, d.unit)) (open_wait d.first_only) (open_amount d.n d.unit h))

open_all : (bs : List ℕ) → Open bs → All (λ b. is_close b ≡ false) bs
open_all [] h = All-nil (λ b. is_close b ≡ false)
open_all (b ∷ bs) h = All-cons (λ b. is_close b ≡ false) b bs h.0 (open_all bs h.1)

inner_from_words : (a : Bool) (w rest : List ℕ) → is_word w ≡ true → Clean w → inner_of a (w ++ rest) ≡ stamp_of_words a (words (w ++ rest))
unfolding inner_of
inner_from_words a [] rest some c = absurd (cc)
inner_from_words a (b ∷ bs) rest some c = ap (λ (t : Bool). if t then None else stamp_of_words a (words (b ∷ (bs ++ rest)))) c.0

open_day : (day : ℕ) → IsDay day → Open (date_text day)
open_day day h =
    let bounds = day_bounds (year_of day) (month_of day) (month_day_of day) (date_holds day h).0 in
    open_date (year_of day) (month_of day) (month_day_of day) bounds.0 bounds.1 bounds.2

-- what is printed of a stamp of one day is that stamp
printed_single : (s : Stamp) → s.last ≡ None → CanPrint s → IsSingle (single_text s.active s.day (tail_text s)) s
printed_single s alone can =
    let date = date_text s.day in
    let name = day_name (weekday_of s.day) in
    let inner = date ++ 32 ∷ (name ++ tail_text s) in
    let parts_open : Open (tail_text s) =
    open-append (times_text s.time s.end_time) (repeater_text s.repeater ++ delay_text s.delay) (open_times s.time s.end_time can.time can.end_time)
    (open-append (repeater_text s.repeater) (delay_text s.delay) (open_repeater s.repeater can.repeater) (open_delay s.delay can.delay)) in
    let whole : Open inner = open-append date (32 ∷ (name ++ tail_text s)) (open_day s.day can.day) (refl, open-append name (tail_text s) (name_open (weekday_of s.day)) parts_open) in
    let regrouped : (date ++ 32 ∷ name) ++ (tail_text s ++ close_of s.active ∷ []) ≡ inner ++ close_of s.active ∷ [] =
    append_assoc date (32 ∷ name) (tail_text s ++ close_of s.active ∷ [])
    ∙ (ap (λ t. date ++ 32 ∷ t) (sym (append_assoc name (tail_text s) (close_of s.active ∷ []))) ∙ sym (append_assoc date (32 ∷ (name ++ tail_text s)) (close_of s.active ∷ []))) in
    record {
      inner = inner;
      bytes_is = ap (λ t. open_of s.active ∷ t) regrouped;
      no_close = open_all inner whole;
      stamp_is =
          inner_from_words s.active date (32 ∷ (name ++ tail_text s)) refl (clean_day s.day can.day)
          ∙ (words-again s can ∙ ap (λ (l : Option (ℕ × Option ℕ)). Some (record s { last = l })) (sym alone));
    }

no_end : (t : Option ℕ) → IfNone t (◌≡◌ {A = Option ℕ} None None)
no_end None = refl
no_end (Some c) = tt

-- and so is what is printed of a range
printed_range : (s : Stamp) (last : ℕ × Option ℕ) → s.last ≡ Some last → CanPrint s → IsRange (single_text s.active s.day (tail_text s) ++ last_text s.active (Some last)) s
printed_range s last is can =
    let first : Stamp = record s { last = None } in
    let second : Stamp = record { active = s.active; day = last.0; time = last.1; end_time = None; repeater = None; delay = None; last = None } in
    let first_can : CanPrint first = record { day = can.day; time = can.time; end_time = can.end_time; end_of_start = can.end_of_start; repeater = can.repeater; delay = can.delay; last = tt; last_time = tt } in
    let last_day : IsDay last.0 = subst (λ (l : Option (ℕ × Option ℕ)). IfSome l (λ x. IsDay x.0)) is can.last in
    let last_time : IfSome last.1 (λ c. c < 1440) = subst (λ (l : Option (ℕ × Option ℕ)). IfSome l (λ x. IfSome x.1 (λ c. c < 1440))) is can.last_time in
    let second_can : CanPrint second = record { day = last_day; time = last_time; end_time = tt; end_of_start = no_end last.1; repeater = tt; delay = tt; last = tt; last_time = tt } in
    let back : IsSingle (single_text s.active last.0 (times_text last.1 None)) second =
    subst (λ (t : List ℕ). IsSingle (single_text s.active last.0 t) second) (append-nil (times_text last.1 None)) (printed_single second refl second_can) in
    record {
      front = single_text s.active s.day (tail_text s);
      back = single_text s.active last.0 (times_text last.1 None);
      first = first;
      second = second;
      bytes_is = refl;
      first_is = printed_single first refl first_can;
      second_is = back;
      same_brackets = refl;
      stamp_is = ap (λ (l : Option (ℕ × Option ℕ)). record s { last = l }) is;
    }

printed_by : (s : Stamp) (l : Option (ℕ × Option ℕ)) → s.last ≡ l → CanPrint s → IsStamp (single_text s.active s.day (tail_text s) ++ last_text s.active l) s
printed_by s None is can =
    inl (subst (λ (t : List ℕ). IsSingle t s) (sym (append-nil (single_text s.active s.day (tail_text s)))) (printed_single s is can))
printed_by s (Some last) is can = inr (printed_range s last is can)

-- what is printed of a stamp is that stamp
pub printed_is_stamp : (s : Stamp) → CanPrint s → IsStamp (stamp_text s) s
printed_is_stamp s can = printed_by s s.last refl can

read_whole : (bytes : List ℕ) (s : Stamp) (o : Option (Stamp × ℕ)) → stamp_of bytes ≡ o → IsSomeAnd o (λ r. (length bytes ≤ r.1) × (length bytes ≡ r.1 → s ≡ r.0)) → stamp_of bytes ≡ Some (s, length bytes)
read_whole bytes s None was h = absurd h
read_whole bytes s (Some r) was h =
    let short = (stamp_found bytes r.0 r.1 was).0 in
    let long : length bytes ≡ r.1 = omega (arith, h.0, short) in
    was ∙ (ap (λ (t : Stamp). Some (t, r.1)) (sym (h.1 long)) ∙ ap (λ (n : ℕ). Some (s, n)) (sym long))

-- and is read as that stamp, to its end
pub read_again : (s : Stamp) → CanPrint s → stamp_of (stamp_text s) ≡ Some (s, length (stamp_text s))
read_again s can =
    let text = stamp_text s in
    let all : text ++ [] ≡ text = append-nil text in
    let found = stamp_longest text [] s (printed_is_stamp s can) in
    read_whole text s (stamp_of text) refl (subst (λ (t : List ℕ). IsSomeAnd (stamp_of t) (λ r. (length text ≤ r.1) × (length text ≡ r.1 → s ≡ r.0))) all found)

-- as does a text that is what is printed of a stamp of the grammar
pub again : (text bytes : List ℕ) (s : Stamp) → text ≡ stamp_text s → IsStamp bytes s → stamp_of text ≡ Some (s, length text)
again text bytes s e is =
    subst (λ (t : List ℕ). stamp_of t ≡ Some (s, length t)) (sym e) (read_again s (can_print bytes s is))
