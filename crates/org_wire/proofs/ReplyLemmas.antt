-- Replies, read back.
use Rattle.std.proofs.Common.{◌≡◌, ◌≢◌, ◌∙◌, ◌⊎◌, inl, inr, ◌-◌, ◌<◌, ◌≤◌, ◌^◌, ℕ, true, false, List, [], ◌∷◌, ◌++◌, All, ap, append_assoc, arith, flat_map, length, length-append, refl, sym, subst, take}
use Rattle.std.specs.Prelude.{◌==◌, Option, None, Some, codes, decimal, nat_le, nat_lt, slice_get}
use Rattle.std.specs.List.{AllByRecursion, list_all, slice_split}
use Rattle.std.specs.Option.{option_map}
use Rattle.std.specs.Str.Parse.{AllDigits, digits_value}
use Rattle.std.proofs.lemmas.Bool.Decides.{nat_tests}
use Rattle.std.proofs.lemmas.Fmt.{digits_decimal, digits_value-decimal}
use Rattle.std.proofs.lemmas.List.Elements.{All-append, All-cons, All-head, All-nil, All-same, All-tail, All-take, All-weaker}
use Rattle.std.proofs.lemmas.List.Splits.{slice_split_at, slice_split_none}
use Rattle.std.proofs.lemmas.Str.Parse.{digit_from_value}
use Rattle.std.proofs.Math.Seq.{drop-append_seam, take-append_seam}
use Rattle.org_base.specs.Codes.{code_of, name_of, number_of}
use Rattle.org_base.specs.declared.code.Code.{Code}
use Rattle.org_base.specs.declared.code.Code.TheVariants as code
use Rattle.org_base.specs.declared.fault.Fault.{Fault}
use Rattle.org_base.specs.declared.fault.Fault.TheVariants as fault
use Rattle.org_wire.specs.ReadBack.{Got, HasNumbers, RepliesAreReadBack, all_codes, fault_of, first_reply, part_of, reply_behind, reply_of, view_behind}
use Rattle.org_wire.specs.Replies.{reply_bytes}
use Rattle.org_wire.specs.Spelled.{parted}
use Rattle.org_wire.specs.declared.reply.Replaced.{Replaced}
use Rattle.org_wire.specs.declared.reply.Reply.{Reply}
use Rattle.org_wire.specs.declared.reply.Reply.TheVariants.{Changed, Serial, Shown, Refused}
use Rattle.org_wire.proofs.NumberLemmas.{numerals}
use Rattle.org_wire.proofs.SpelledWords.{cut_back, no_cut}

-- neither a space nor a line feed stands in it
abbrev Ink : List ℕ → Type 0
Ink word = All (λ b. 32 < b) word

ink_tested : (word : List ℕ) → list_all (λ b. nat_lt 32 b) word ≡ true → Ink word
ink_tested [] e = All-nil (λ b. 32 < b)
ink_tested (b ∷ word) e = elim (nat_lt 32 b) as (λ t. nat_lt 32 b ≡ t → list_all (λ b. nat_lt 32 b) (b ∷ word) ≡ true → Ink (b ∷ word)) [
  | true ↦ λ is e. All-cons (λ b. 32 < b) b word (grind (arith, nat_tests, is)) (ink_tested word (rw is at e))
  | false ↦ λ is e. let none : false ≡ true = rw is at e in absurd cc
] refl e

ink_digits : (ds : List ℕ) → AllDigits 10 ds → Ink ds
ink_digits [] digits = All-nil (λ b. 32 < b)
ink_digits (d ∷ ds) digits =
    let is = digit_from_value d digits.0 in
    All-cons (λ b. 32 < b) d ds (omega (arith, is.0)) (ink_digits ds digits.1)

ink_decimal : (n : ℕ) → n < 2 ^ 64 → Ink (decimal n)
ink_decimal n small = ink_digits (decimal n) (digits_decimal numerals n small)

ink_name : (c : Code) → Ink (name_of c)
ink_name c = ink_tested (name_of c) (elim c as (λ c. list_all (λ b. nat_lt 32 b) (name_of c) ≡ true) [
  | code.Memory ↦ refl
  | code.Command ↦ refl
  | code.Long ↦ refl
  | code.Unknown ↦ refl
  | code.Taken ↦ refl
  | code.Utf8 ↦ refl
  | code.Size ↦ refl
  | code.Files ↦ refl
  | code.Range ↦ refl
  | code.Boundary ↦ refl
  | code.Stale ↦ refl
  | code.Session ↦ refl
  | code.Date ↦ refl
  | code.Days ↦ refl
  | code.Match ↦ refl
  | code.Regexp ↦ refl
  | code.Option ↦ refl
  | code.Unpinned ↦ refl
  | code.Pinned ↦ refl
  | code.Heading ↦ refl
  | code.Keyword ↦ refl
  | code.Hours ↦ refl
  | code.Spent ↦ refl
  | code.Cut ↦ refl
  | code.Device ↦ refl
  | code.Late ↦ refl
])

small_number : (c : Code) → number_of c < 2 ^ 64
small_number c = elim c as (λ c. number_of c < 2 ^ 64) [
  | code.Memory ↦ omega arith
  | code.Command ↦ omega arith
  | code.Long ↦ omega arith
  | code.Unknown ↦ omega arith
  | code.Taken ↦ omega arith
  | code.Utf8 ↦ omega arith
  | code.Size ↦ omega arith
  | code.Files ↦ omega arith
  | code.Range ↦ omega arith
  | code.Boundary ↦ omega arith
  | code.Stale ↦ omega arith
  | code.Session ↦ omega arith
  | code.Date ↦ omega arith
  | code.Days ↦ omega arith
  | code.Match ↦ omega arith
  | code.Regexp ↦ omega arith
  | code.Option ↦ omega arith
  | code.Unpinned ↦ omega arith
  | code.Pinned ↦ omega arith
  | code.Heading ↦ omega arith
  | code.Keyword ↦ omega arith
  | code.Hours ↦ omega arith
  | code.Spent ↦ omega arith
  | code.Cut ↦ omega arith
  | code.Device ↦ omega arith
  | code.Late ↦ omega arith
]

in_order : (c : Code) → slice_get all_codes (number_of c - 1) ≡ Some c
in_order c = elim c as (λ c. slice_get all_codes (number_of c - 1) ≡ Some c) [
  | code.Memory ↦ refl
  | code.Command ↦ refl
  | code.Long ↦ refl
  | code.Unknown ↦ refl
  | code.Taken ↦ refl
  | code.Utf8 ↦ refl
  | code.Size ↦ refl
  | code.Files ↦ refl
  | code.Range ↦ refl
  | code.Boundary ↦ refl
  | code.Stale ↦ refl
  | code.Session ↦ refl
  | code.Date ↦ refl
  | code.Days ↦ refl
  | code.Match ↦ refl
  | code.Regexp ↦ refl
  | code.Option ↦ refl
  | code.Unpinned ↦ refl
  | code.Pinned ↦ refl
  | code.Heading ↦ refl
  | code.Keyword ↦ refl
  | code.Hours ↦ refl
  | code.Spent ↦ refl
  | code.Cut ↦ refl
  | code.Device ↦ refl
  | code.Late ↦ refl
]

nothing_behind : (c : Code) → fault_of c [] ≡ fault.Plain c
nothing_behind c = elim c as (λ c. fault_of c [] ≡ fault.Plain c) [
  | code.Memory ↦ refl
  | code.Command ↦ refl
  | code.Long ↦ refl
  | code.Unknown ↦ refl
  | code.Taken ↦ refl
  | code.Utf8 ↦ refl
  | code.Size ↦ refl
  | code.Files ↦ refl
  | code.Range ↦ refl
  | code.Boundary ↦ refl
  | code.Stale ↦ refl
  | code.Session ↦ refl
  | code.Date ↦ refl
  | code.Days ↦ refl
  | code.Match ↦ refl
  | code.Regexp ↦ refl
  | code.Option ↦ refl
  | code.Unpinned ↦ refl
  | code.Pinned ↦ refl
  | code.Heading ↦ refl
  | code.Keyword ↦ refl
  | code.Hours ↦ refl
  | code.Spent ↦ refl
  | code.Cut ↦ refl
  | code.Device ↦ refl
  | code.Late ↦ refl
]

-- the words of a reply's line, and what stands after the line
abbrev extra_words : Fault → List (List ℕ)
extra_words (fault.Plain c) = []
extra_words (fault.Stale serial) = decimal serial ∷ []
extra_words (fault.MatchAt at) = decimal at ∷ []

abbrev words_of : Reply → List (List ℕ)
words_of (Serial serial) = codes "ok" ∷ (decimal serial ∷ [])
words_of (Changed serial part) = codes "ok" ∷ (decimal serial ∷ (decimal part.at ∷ (decimal part.del ∷ (decimal (length part.ins) ∷ []))))
words_of (Shown text) = codes "view" ∷ (decimal (length text) ∷ [])
words_of (Refused f) = codes "err" ∷ (decimal (number_of (code_of f)) ∷ (name_of (code_of f) ∷ extra_words f))

abbrev tail_of : Reply → List ℕ
tail_of (Serial serial) = []
tail_of (Changed serial part) = part.ins
tail_of (Shown text) = text
tail_of (Refused f) = []

fault_so : (f : Fault) → reply_bytes (Refused f) ≡ parted 32 (words_of (Refused f)) ++ (10 ∷ [])
fault_so (fault.Plain c) =
    let n = decimal (number_of c) in
    ap (λ t. codes "err " ++ t) (append_assoc n (codes " ") (name_of c ++ codes "\n") ∙ sym (append_assoc n (32 ∷ name_of c) (10 ∷ [])))
fault_so (fault.Stale serial) =
    let n = decimal (number_of code.Stale) in
    ap (λ t. codes "err " ++ t) (append_assoc n (codes " ") (codes "stale" ++ ((codes " " ++ decimal serial) ++ codes "\n")) ∙ sym (append_assoc n (32 ∷ (codes "stale" ++ (32 ∷ decimal serial))) (10 ∷ [])))
fault_so (fault.MatchAt at) =
    let n = decimal (number_of code.Match) in
    ap (λ t. codes "err " ++ t) (append_assoc n (codes " ") (codes "match" ++ ((codes " " ++ decimal at) ++ codes "\n")) ∙ sym (append_assoc n (32 ∷ (codes "match" ++ (32 ∷ decimal at))) (10 ∷ [])))

change_so : (serial : ℕ) (part : Replaced) → reply_bytes (Changed serial part) ≡ parted 32 (words_of (Changed serial part)) ++ (10 ∷ part.ins)
change_so serial part =
    let s = decimal serial in
    let a = decimal part.at in
    let d = decimal part.del in
    let n = decimal (length part.ins) in
    ap (λ t. codes "ok " ++ t) (
    append_assoc (s ++ (32 ∷ a) ++ (32 ∷ d) ++ (32 ∷ n)) (10 ∷ []) part.ins
    ∙ append_assoc (s ++ (32 ∷ a) ++ (32 ∷ d)) (32 ∷ n) (10 ∷ part.ins)
    ∙ append_assoc (s ++ (32 ∷ a)) (32 ∷ d) (32 ∷ (n ++ (10 ∷ part.ins)))
    ∙ append_assoc s (32 ∷ a) (32 ∷ (d ++ (32 ∷ (n ++ (10 ∷ part.ins)))))
    ∙ sym (append_assoc s (32 ∷ (a ++ (32 ∷ (d ++ (32 ∷ n))))) (10 ∷ part.ins)
    ∙ ap (λ t. s ++ (32 ∷ t)) (append_assoc a (32 ∷ (d ++ (32 ∷ n))) (10 ∷ part.ins) ∙ ap (λ t. a ++ (32 ∷ t)) (append_assoc d (32 ∷ n) (10 ∷ part.ins))))
    )

written_so : (r : Reply) → reply_bytes r ≡ parted 32 (words_of r) ++ (10 ∷ tail_of r)
written_so (Serial serial) = refl
written_so (Changed serial part) = change_so serial part
written_so (Shown text) = ap (λ t. codes "view " ++ t) (append_assoc (decimal (length text)) (codes "\n") text)
written_so (Refused f) = fault_so f

-- its words hold neither a space nor a line feed
extra_ink : (f : Fault) → HasNumbers (Refused f) → AllByRecursion Ink (extra_words f)
extra_ink (fault.Plain c) small = tt
extra_ink (fault.Stale serial) small = (ink_decimal serial small, tt)
extra_ink (fault.MatchAt at) small = (ink_decimal at small, tt)

words_ink : (r : Reply) → HasNumbers r → AllByRecursion Ink (words_of r)
words_ink (Serial serial) small = (ink_tested (codes "ok") refl, (ink_decimal serial small, tt))
words_ink (Changed serial part) small = (ink_tested (codes "ok") refl, (ink_decimal serial small.0, (ink_decimal part.at small.1, (ink_decimal part.del small.2, (ink_decimal (length part.ins) small.3, tt)))))
words_ink (Shown text) small = (ink_tested (codes "view") refl, (ink_decimal (length text) small, tt))
words_ink (Refused f) small = (ink_tested (codes "err") refl, (ink_decimal (number_of (code_of f)) (small_number (code_of f)), (ink_name (code_of f), extra_ink f small)))

some_words : (r : Reply) → 0 < length (words_of r)
some_words (Serial serial) = omega arith
some_words (Changed serial part) = omega arith
some_words (Shown text) = omega arith
some_words (Refused f) = omega arith

no_space : (word : List ℕ) → Ink word → All (λ b. (b == 32) ≡ false) word
no_space word ink = All-weaker (λ b. 32 < b) (λ b. (b == 32) ≡ false) (λ b more. grind (arith, nat_tests, more)) word ink

no_feed : (word : List ℕ) → Ink word → All (λ b. b ≢ 10) word
no_feed word ink = All-weaker (λ b. 32 < b) (λ b. b ≢ 10) (λ b more e. omega (arith, more, e)) word ink

split_words : (words : List (List ℕ)) → 0 < length words → AllByRecursion Ink words → slice_split (λ b. b == 32) (parted 32 words) ≡ words
split_words [] some inks = absurd (omega (arith, some))
split_words (word ∷ []) some inks = slice_split_none (λ b. b == 32) word (no_space word inks.0)
split_words (word ∷ (next ∷ words)) some inks =
    slice_split_at (λ b. b == 32) word 32 (parted 32 (next ∷ words)) (no_space word inks.0) refl
    ∙ ap (λ l. word ∷ l) (split_words (next ∷ words) (omega arith) inks.1)

one_line : (words : List (List ℕ)) → AllByRecursion Ink words → All (λ b. b ≢ 10) (parted 32 words)
one_line [] inks = All-nil (λ b. b ≢ 10)
one_line (word ∷ []) inks = no_feed word inks.0
one_line (word ∷ (next ∷ words)) inks =
    let P : ℕ → Type 0 = λ b. b ≢ 10 in
    All-append P word (32 ∷ parted 32 (next ∷ words)) (no_feed word inks.0) (All-cons P 32 (parted 32 (next ∷ words)) (λ e. omega (arith, e)) (one_line (next ∷ words) inks.1))

-- the line is read, whatever stands after it
behind_line : (r : Reply) (rest : List ℕ) → HasNumbers r → first_reply (parted 32 (words_of r) ++ (10 ∷ rest)) ≡ reply_of (words_of r) rest
behind_line r rest small =
    let inks = words_ink r small in
    ap reply_behind (cut_back 10 (parted 32 (words_of r)) rest (one_line (words_of r) inks))
    ∙ ap (λ words. reply_of words rest) (split_words (words_of r) (some_words r) inks)

-- the reply of a line's words
abbrev got : Reply → List ℕ → Option Got
got r rest = Some (record { reply = r; rest = rest })

le_yes : (a b : ℕ) → a ≤ b → nat_le a b ≡ true
le_yes a b h = grind (arith, nat_tests)

le_no : (a b : ℕ) → b < a → nat_le a b ≡ false
le_no a b h = grind (arith, nat_tests)

coded : (c : Code) (words : List (List ℕ)) (rest : List ℕ) →
    option_map (λ c. record { reply = Refused (fault_of c words); rest = rest }) (slice_get all_codes (digits_value 10 (decimal (number_of c)) - 1)) ≡ got (Refused (fault_of c words)) rest
coded c words rest =
    let value = digits_value-decimal numerals (number_of c) (small_number c) in
    ap (λ n. option_map (λ c. record { reply = Refused (fault_of c words); rest = rest }) (slice_get all_codes (n - 1))) value
    ∙ ap (option_map (λ c. record { reply = Refused (fault_of c words); rest = rest })) (in_order c)

fault_got : (f : Fault) (rest : List ℕ) → HasNumbers (Refused f) → reply_of (words_of (Refused f)) rest ≡ got (Refused f) rest
fault_got (fault.Plain c) rest small = coded c [] rest ∙ ap (λ f. got (Refused f) rest) (nothing_behind c)
fault_got (fault.Stale serial) rest small = coded code.Stale (decimal serial ∷ []) rest ∙ ap (λ n. got (Refused (fault.Stale n)) rest) (digits_value-decimal numerals serial small)
fault_got (fault.MatchAt at) rest small = coded code.Match (decimal at ∷ []) rest ∙ ap (λ n. got (Refused (fault.MatchAt n)) rest) (digits_value-decimal numerals at small)

view_so : (text rest : List ℕ) → view_behind (length text) (text ++ rest) ≡ got (Shown text) rest
view_so text rest = rw (le_yes (length text) (length (text ++ rest)) (omega (arith, length-append text rest)), take-append_seam text rest, drop-append_seam text rest) refl

part_so : (serial : ℕ) (part : Replaced) (rest : List ℕ) → part_of serial part.at part.del (length part.ins) (part.ins ++ rest) ≡ got (Changed serial part) rest
part_so serial part rest =
    let text = part.ins in
    rw (le_yes (length text) (length (text ++ rest)) (omega (arith, length-append text rest)), take-append_seam text rest, drop-append_seam text rest) refl

-- a change by its numbers
read_so : (serial : ℕ) (part : Replaced) (rest : List ℕ) → HasNumbers (Changed serial part) → reply_of (words_of (Changed serial part)) rest ≡ part_of serial part.at part.del (length part.ins) rest
read_so serial part rest small =
    ap (λ n. part_of n (digits_value 10 (decimal part.at)) (digits_value 10 (decimal part.del)) (digits_value 10 (decimal (length part.ins))) rest) (digits_value-decimal numerals serial small.0)
    ∙ ap (λ n. part_of serial n (digits_value 10 (decimal part.del)) (digits_value 10 (decimal (length part.ins))) rest) (digits_value-decimal numerals part.at small.1)
    ∙ ap (λ n. part_of serial part.at n (digits_value 10 (decimal (length part.ins))) rest) (digits_value-decimal numerals part.del small.2)
    ∙ ap (λ n. part_of serial part.at part.del n rest) (digits_value-decimal numerals (length part.ins) small.3)

got_so : (r : Reply) (rest : List ℕ) → HasNumbers r → reply_of (words_of r) (tail_of r ++ rest) ≡ got r rest
got_so (Serial serial) rest small = ap (λ n. got (Serial n) rest) (digits_value-decimal numerals serial small)
got_so (Changed serial part) rest small = read_so serial part (part.ins ++ rest) small ∙ part_so serial part rest
got_so (Shown text) rest small = ap (λ n. view_behind n (text ++ rest)) (digits_value-decimal numerals (length text) small) ∙ view_so text rest
got_so (Refused f) rest small = fault_got f rest small

first_back : (r : Reply) (rest : List ℕ) → HasNumbers r → first_reply (reply_bytes r ++ rest) ≡ got r rest
first_back r rest small =
    ap first_reply (ap (λ t. t ++ rest) (written_so r) ∙ append_assoc (parted 32 (words_of r)) (10 ∷ tail_of r) rest)
    ∙ behind_line r (tail_of r ++ rest) small ∙ got_so r rest small

-- a front of a line and what stands after it ends within the line, or after its line feed
record EndsWithin (line part : List ℕ) : Type 0 where
  more : List ℕ
  is : line ≡ part ++ more

record EndsBehind (line tail part lost : List ℕ) : Type 0 where
  mid : List ℕ
  is : part ≡ line ++ (10 ∷ mid)
  left : tail ≡ mid ++ lost

head_same : (x y : ℕ) (xs ys : List ℕ) → x ∷ xs ≡ y ∷ ys → x ≡ y
head_same x y xs ys e = cc

tail_same : (x y : ℕ) (xs ys : List ℕ) → x ∷ xs ≡ y ∷ ys → xs ≡ ys
tail_same x y xs ys e = cc

ends : (line tail part lost : List ℕ) → line ++ (10 ∷ tail) ≡ part ++ lost → EndsWithin line part ⊎ EndsBehind line tail part lost
ends line tail [] lost e = inl (record { more = line; is = refl })
ends [] tail (x ∷ part) lost e = inr (record { mid = part; is = ap (λ y. y ∷ part) (sym (head_same 10 x tail (part ++ lost) e)); left = tail_same 10 x tail (part ++ lost) e })
ends (b ∷ line) tail (x ∷ part) lost e =
    let same = head_same b x (line ++ (10 ∷ tail)) (part ++ lost) e in
    elim (ends line tail part lost (tail_same b x (line ++ (10 ∷ tail)) (part ++ lost) e)) [
      | inl w ↦ inl (record { more = w.more; is = ap (λ y. y ∷ line) same ∙ ap (λ l. x ∷ l) w.is })
      | inr w ↦ inr (record { mid = w.mid; is = ap (λ l. x ∷ l) w.is ∙ ap (λ y. y ∷ (line ++ (10 ∷ w.mid))) (sym same); left = w.left })
    ]

front_of : (part more : List ℕ) → All (λ b. b ≢ 10) (part ++ more) → All (λ b. b ≢ 10) part
front_of part more all =
    let P : ℕ → Type 0 = λ b. b ≢ 10 in
    All-same P part (take (length part) (part ++ more)) (sym (take-append_seam part more)) (All-take P (length part) (part ++ more) all)

-- what is left of a view is too short, and nothing is left of the others
too_short : (r : Reply) (mid lost : List ℕ) → HasNumbers r → tail_of r ≡ mid ++ lost → 0 < length lost → reply_of (words_of r) mid ≡ None
too_short (Serial serial) mid lost small e some = absurd (omega (arith, ap length e, length-append mid lost, some))
too_short (Changed serial part) mid lost small e some =
    let short : length mid < length part.ins = omega (arith, ap length e, length-append mid lost, some) in
    read_so serial part mid small ∙ rw (le_no (length part.ins) (length mid) short) refl
too_short (Shown text) mid lost small e some =
    let short : length mid < length text = omega (arith, ap length e, length-append mid lost, some) in
    ap (λ n. view_behind n mid) (digits_value-decimal numerals (length text) small) ∙ rw (le_no (length text) (length mid) short) refl
too_short (Refused f) mid lost small e some = absurd (omega (arith, ap length e, length-append mid lost, some))

cut_off : (r : Reply) (part lost : List ℕ) → HasNumbers r → reply_bytes r ≡ part ++ lost → 0 < length lost → first_reply part ≡ None
cut_off r part lost small e some = elim (ends (parted 32 (words_of r)) (tail_of r) part lost (sym (written_so r) ∙ e)) [
  | inl w ↦
      let all = one_line (words_of r) (words_ink r small) in
      ap reply_behind (no_cut 10 part (front_of part w.more (subst (λ l. All (λ b. b ≢ 10) l) w.is all)))
  | inr w ↦ ap first_reply w.is ∙ behind_line r w.mid small ∙ too_short r w.mid lost small w.left some
]

-- the same first reply, and the same after it
same_reply : (r o : Reply) (a b : List ℕ) → got r a ≡ got o b → r ≡ o
same_reply r o a b e = ap (λ g. elim g [ Some x ↦ x.reply | None ↦ r ]) e

same_rest : (r o : Reply) (a b : List ℕ) → got r a ≡ got o b → a ≡ b
same_rest r o a b e = ap (λ g. elim g [ Some x ↦ x.rest | None ↦ a ]) e

one_way : (rs os : List Reply) → All HasNumbers rs → All HasNumbers os → flat_map reply_bytes rs ≡ flat_map reply_bytes os → rs ≡ os
one_way [] [] mine theirs e = refl
one_way [] (o ∷ os) mine theirs e =
    let none : None ≡ got o (flat_map reply_bytes os) = ap first_reply e ∙ first_back o (flat_map reply_bytes os) (All-head HasNumbers o os theirs) in
    absurd cc
one_way (r ∷ rs) [] mine theirs e =
    let none : None ≡ got r (flat_map reply_bytes rs) = sym (ap first_reply e) ∙ first_back r (flat_map reply_bytes rs) (All-head HasNumbers r rs mine) in
    absurd cc
one_way (r ∷ rs) (o ∷ os) mine theirs e =
    let both : got r (flat_map reply_bytes rs) ≡ got o (flat_map reply_bytes os) =
    sym (first_back r (flat_map reply_bytes rs) (All-head HasNumbers r rs mine)) ∙ ap first_reply e ∙ first_back o (flat_map reply_bytes os) (All-head HasNumbers o os theirs) in
    ap (λ x. x ∷ rs) (same_reply r o (flat_map reply_bytes rs) (flat_map reply_bytes os) both)
    ∙ ap (λ xs. o ∷ xs) (one_way rs os (All-tail HasNumbers r rs mine) (All-tail HasNumbers o os theirs) (same_rest r o (flat_map reply_bytes rs) (flat_map reply_bytes os) both))

pub replies_are_read_back : RepliesAreReadBack
replies_are_read_back = record { first = first_back; cut = cut_off; all = one_way }
