-- A space, a border: whatever follows them, what stands before them is read as if nothing did.
use Rattle.std.proofs.Common.{◌≡◌, ℕ, ◌+◌, Bool, true, false, cond, not, List, [], ◌∷◌, ◌++◌, refl, sym, ap, ◌∙◌, arith, suc, zero, replicate}
use Rattle.std.specs.Str.{chars, IsUtf8}
use lib.Utf8.{encode}
use Rattle.std.specs.List.{list_all}
use Rattle.std.proofs.lemmas.Str.{chars-append}
use Rattle.unicode_width.specs.declared.state.After.{After}
use Rattle.unicode_width.specs.declared.state.After.TheVariants.{Nothing, LineFeed, EmojiModifier, RegionalIndicator, RegionalIndicators, Emoji, ZwjEmoji, KeycapZwjEmoji, IndicatorZwj, EvenIndicatorsZwj, OddIndicatorsZwj, TagEnd, TagDigit1, TagDigit2, TagDigit3, TagLetter1, TagLetter2, TagLetter3, TagLetter4, TagLetter5, TagLetter6, KiratE, KiratAi, Alef, Solidus, SolidusAlef, Lamed, ZwjLamed, Ya, ZwjYa, VowelZwjYa, Tifinagh, ZwjTifinagh, JoinerTifinagh, LisuTone, OrkhonI, ZwjOrkhonI, KhmerLetter}
use Rattle.unicode_width.specs.declared.state.State.{State}
use Rattle.unicode_width.specs.Width.{before, plain, alone, Reading, past_selectors, in_context, past_emoji, is_plain, if_kept, step, read_before, str_width}
use Rattle.unicode_width.proofs.Computing.{unicode_width}
use Rattle.unicode_width.proofs.Rules.{is_simple, str_width-append_simple}
use Rattle.org_look.specs.Widths.{IsFence}

abbrev Alone : ℕ → Type 0
Alone c = (total : ℕ) (s : State) → step false c (total, s) ≡ (total + 1, plain)

past-side : (after : After) (total : ℕ) → past_selectors false 0x2502 total after ≡ (total + 1, plain)
unfolding unicode_width
past-side Nothing total = refl
past-side LineFeed total = refl
past-side EmojiModifier total = refl
past-side RegionalIndicator total = refl
past-side RegionalIndicators total = refl
past-side Emoji total = refl
past-side ZwjEmoji total = refl
past-side KeycapZwjEmoji total = refl
past-side IndicatorZwj total = refl
past-side EvenIndicatorsZwj total = refl
past-side OddIndicatorsZwj total = refl
past-side TagEnd total = refl
past-side TagDigit1 total = refl
past-side TagDigit2 total = refl
past-side TagDigit3 total = refl
past-side TagLetter1 total = refl
past-side TagLetter2 total = refl
past-side TagLetter3 total = refl
past-side TagLetter4 total = refl
past-side TagLetter5 total = refl
past-side TagLetter6 total = refl
past-side KiratE total = refl
past-side KiratAi total = refl
past-side Alef total = refl
past-side Solidus total = refl
past-side SolidusAlef total = refl
past-side Lamed total = refl
past-side ZwjLamed total = refl
past-side Ya total = refl
past-side ZwjYa total = refl
past-side VowelZwjYa total = refl
past-side Tifinagh total = refl
past-side ZwjTifinagh total = refl
past-side JoinerTifinagh total = refl
past-side LisuTone total = refl
past-side OrkhonI total = refl
past-side ZwjOrkhonI total = refl
past-side KhmerLetter total = refl

both : {A : Type 0} (b : Bool) (x y z : A) → x ≡ z → y ≡ z → cond b x y ≡ z
both true x y z p q = p
both false x y z p q = q

in-side : (text quote : Bool) (after : After) (emoji : Bool) (total : ℕ) → in_context false 0x2502 total (record { after = after; emoji = emoji; text = text; quote = quote }) ≡ (total + 1, plain)
unfolding unicode_width
in-side true true after emoji total = past-side after total
in-side true false after emoji total = past-side after total
in-side false true after emoji total = past-side after total
in-side false false after emoji total = past-side after total

read-side : (s : State) (total : ℕ) → past_emoji false 0x2502 total s ≡ (total + 1, plain)
unfolding unicode_width
read-side s total = both (is_plain s) _ _ _ refl (in-side s.text s.quote s.after s.emoji total)

step-side : Alone 0x2502
unfolding unicode_width
step-side total s = both (not s.emoji) _ _ _ (read-side s total) (read-side (record (if_kept s) { emoji = false }) total)

step-space : Alone 0x20
unfolding unicode_width
step-space total s = both (not s.emoji) _ _ _ refl refl

step-bar : Alone 0x7C
unfolding unicode_width
step-bar total s = both (not s.emoji) _ _ _ refl refl

read-append : (xs ys : List ℕ) (r : Reading) → read_before false (xs ++ ys) r ≡ read_before false xs (read_before false ys r)
read-append [] ys r = refl
read-append (x ∷ xs) ys r = ap (step false x) (read-append xs ys r)

spaces_read : (n : ℕ) → read_before false (replicate n 32) (0, plain) ≡ (n, plain)
spaces_read zero = refl
spaces_read (suc n) = ap (step false 32) (spaces_read n) ∙ step-space n plain ∙ (let e : n + 1 ≡ suc n = omega arith in ap (λ m. (m, plain)) e)

pub spaces_simple : (n : ℕ) → list_all is_simple (replicate n 32) ≡ true
spaces_simple zero = refl
spaces_simple (suc n) = spaces_simple n

pub str_width-spaces : (n : ℕ) → str_width false (replicate n 32) ≡ n
unfolding str_width
str_width-spaces n = ap (λ r. r.0) (spaces_read n)

-- what was read before adds to the width of what stands in front
shift : (xs : List ℕ) (n : ℕ) → (read_before false xs (n, plain)).0 ≡ str_width false xs + n
unfolding str_width
shift xs n =
    ap (λ r. (read_before false xs r).0) (sym (spaces_read n)) ∙ ap (λ r. r.0) (sym (read-append xs (replicate n 32) (0, plain)))
    ∙ str_width-append_simple false xs (replicate n 32) (spaces_simple n) ∙ ap (λ m. str_width false xs + m) (str_width-spaces n)

apart : (c : ℕ) → Alone c → (xs ys : List ℕ) → str_width false (xs ++ (c ∷ ys)) ≡ str_width false xs + (1 + str_width false ys)
unfolding str_width
apart c alone xs ys =
    ap (λ r. r.0) (read-append xs (c ∷ ys) (0, plain)) ∙ ap (λ r. (read_before false xs r).0) (alone (read_before false ys (0, plain)).0 (read_before false ys (0, plain)).1)
    ∙ shift xs ((read_before false ys (0, plain)).0 + 1) ∙ (let e : (read_before false ys (0, plain)).0 + 1 ≡ 1 + (read_before false ys (0, plain)).0 = omega arith in ap (λ m. str_width false xs + m) e)

fence : (bytes : List ℕ) (c : ℕ) → IsUtf8 bytes → chars bytes ≡ c ∷ [] → Alone c → IsFence bytes
fence bytes c utf8 one alone before after whole =
    ap (str_width false) (chars-append before (bytes ++ after) whole ∙ ap (λ cs. chars before ++ cs) (chars-append bytes after utf8 ∙ ap (λ cs. cs ++ chars after) one))
    ∙ apart c alone (chars before) (chars after)

pub border : IsFence (226 ∷ 148 ∷ 130 ∷ [])
unfolding chars encode
border = fence (226 ∷ 148 ∷ 130 ∷ []) 0x2502 (0x2502 ∷ [], (refl, refl)) refl step-side

pub bar : IsFence (0x7C ∷ [])
unfolding chars encode
bar = fence (0x7C ∷ []) 0x7C (0x7C ∷ [], (refl, refl)) refl step-bar

pub space : IsFence (0x20 ∷ [])
unfolding chars encode
space = fence (0x20 ∷ []) 0x20 (0x20 ∷ [], (refl, refl)) refl step-space
