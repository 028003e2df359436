-- A blank is left out, and a byte of a word is put, with a space in front of it or without.
use Rattle.std.proofs.Common.{◌≡◌, ◌∙◌, ℕ, ◌+◌, ◌<◌, Bool, true, false, List, [], ◌∷◌, ◌++◌, length, get_or, drop, sym, ap, add-one, drop-cons}
use Rattle.std.specs.Prelude.{◌&&◌}
use Rattle.org_ids.specs.Names.{bounded}
use Rattle.org_ids.specs.Words.{gap, is_blank, words_text}
use Rattle.org_ids.proofs.WordLemmas.{at_blank, at_word}
use Rattle.org_ids.proofs.words.push_blanked.Goals as goal
use Rattle.org_ids.proofs.words.push_blanked.Goals.{then-is_blank, else-is_blank+in_ok-push_byte, then-has_word, else-has_word}

module _ (out bytes all : List ℕ) (has apart : Bool) (place : ℕ) (there : place < length bytes) where
  here : drop place bytes ≡ get_or bytes place 0 ∷ drop (place + 1) bytes
  here = rw (add-one, drop-cons bytes place 0)

  of_blank : is_blank (get_or bytes place 0) ≡ true → bounded (out ++ words_text has apart (drop place bytes)) ≡ all →
      bounded (out ++ words_text has true (drop (place + 1) bytes)) ≡ all
  of_blank blank before =
      ap (λ (x : List ℕ). bounded (out ++ x)) (sym (ap (words_text has apart) here ∙ at_blank has apart (get_or bytes place 0) (drop (place + 1) bytes) blank)) ∙ before

  of_word : is_blank (get_or bytes place 0) ≡ false → bounded (out ++ words_text has apart (drop place bytes)) ≡ all →
      bounded (bounded (out ++ (gap (has && apart) ++ get_or bytes place 0 ∷ [])) ++ words_text true false (drop (place + 1) bytes)) ≡ all
  of_word word before =
      at_word has apart (get_or bytes place 0) out (drop (place + 1) bytes) word
      ∙ ap (λ (x : List ℕ). bounded (out ++ words_text has apart x)) (sym here)
      ∙ before

with_word : (has apart now : Bool) → has ≡ true → now ≡ apart → now ≡ (has && apart)
with_word has apart now h e = rw h e

without_word : (has apart now : Bool) → has ≡ false → now ≡ has → now ≡ (has && apart)
without_word has apart now h e = e ∙ h ∙ ap (λ (b : Bool). b && apart) (sym h)

pub loop-byte-preserved : goal.loop-byte-preserved
loop-byte-preserved c =
    let bytes = c.args.bytes.now in
    let rest : List ℕ = drop (c.loop-byte.byte-index + 1) bytes in
    let out : List ℕ = c.loop-byte.out.items in
    let byte : ℕ = get_or bytes c.loop-byte.byte-index 0 in
    let has : Bool = c.loop-byte.has_word in
    let apart : Bool = c.loop-byte.is_apart in
    let all : List ℕ = bounded (c.args.out.now.items ++ words_text false false bytes) in
    elim c.if-is_blank.branch [
      | then-is_blank w ↦
          (λ i. bounded ((w.out-is i).items ++ words_text (w.has_word-is i) (w.is_apart-is i) rest))
          ∙ of_blank out bytes all has apart c.loop-byte.byte-index c.loop-byte-test.true (sym c.is_blank.ensures.value ∙ w.if-is_blank.true) c.loop-byte.invariant
      | else-is_blank+in_ok-push_byte w ↦
          let put : w.if-has_word.push_byte ≡ (has && apart) = elim w.if-has_word.branch [
            | then-has_word v ↦ with_word has apart w.if-has_word.push_byte v.if-has_word.true v.push_byte-is
            | else-has_word v ↦ without_word has apart w.if-has_word.push_byte v.if-has_word.false v.push_byte-is
          ] in
          (λ i. bounded ((w.out-is i).items ++ words_text (w.has_word-is i) (w.is_apart-is i) rest))
          ∙ ap (λ (x : List ℕ). bounded (x ++ words_text true false rest)) (w.in_ok-push_byte.ensures.ok ∙ ap (λ (b : Bool). bounded (out ++ (gap b ++ byte ∷ []))) put)
          ∙ of_word out bytes all has apart c.loop-byte.byte-index c.loop-byte-test.true (sym c.is_blank.ensures.value ∙ w.if-is_blank.false) c.loop-byte.invariant
    ]
