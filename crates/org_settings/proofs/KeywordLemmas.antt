-- Words and standings, as keywords.
use Rattle.std.proofs.Common.{◌≡◌, ℕ, zero, suc, ◌<◌, ◌≤◌, Bool, true, false, cond, List, [], ◌∷◌, ◌++◌, map, length, get_or, refl, ap, sym, ◌∙◌, arith}
use Rattle.std.specs.Prelude.{bytes_eq, position, is_some}
use Rattle.org_settings.specs.Keywords.{Keyword, is_named, without_parens, with_new, add_word, keyword_place, keyword_done, keyword_first, keyword_word}
use Rattle.org_settings.specs.KeywordKinds.{shown}
use Rattle.org_settings.specs.declared.keywords.KeywordKind.{KeywordKind}

abbrev Texts : Type 0
Texts = List (List ℕ)

-- the words that are shown
pub words_shown : (ws : Texts) (ss : List KeywordKind) → length ws ≡ length ss → map (λ (k : Keyword). k.word) (shown ws ss) ≡ ws
words_shown [] ss e = refl
words_shown (w ∷ ws) [] e = absurd (omega (arith, e))
words_shown (w ∷ ws) (s ∷ ss) e = ap (λ xs. w ∷ xs) (words_shown ws ss (omega (arith, e)))

pub as_many_shown : (ws : Texts) (ss : List KeywordKind) → length ws ≡ length ss → length (shown ws ss) ≡ length ws
as_many_shown [] ss e = refl
as_many_shown (w ∷ ws) [] e = absurd (omega (arith, e))
as_many_shown (w ∷ ws) (s ∷ ss) e = ap suc (as_many_shown ws ss (omega (arith, e)))

-- the place of a word among them
pub place_shown : (ws : Texts) (ss : List KeywordKind) (w : List ℕ) → length ws ≡ length ss → position (bytes_eq w) ws ≡ keyword_place (shown ws ss) w
place_shown ws ss w e = ap (position (bytes_eq w)) (sym (words_shown ws ss e))

-- one more word and its standing
pub shown-append : (ws : Texts) (ss : List KeywordKind) (w : List ℕ) (s : KeywordKind) → length ws ≡ length ss →
    shown (ws ++ w ∷ []) (ss ++ s ∷ []) ≡ shown ws ss ++ record { word = w; done = s.is_done; first = s.first } ∷ []
shown-append [] [] w s e = refl
shown-append [] (t ∷ ss) w s e = absurd (omega (arith, e))
shown-append (v ∷ ws) [] w s e = absurd (omega (arith, e))
shown-append (v ∷ ws) (t ∷ ss) w s e = ap (λ ks. record { word = v; done = t.is_done; first = t.first } ∷ ks) (shown-append ws ss w s (omega (arith, e)))

-- the standing at a place is the keyword's
pub done_shown : (ws : Texts) (ss : List KeywordKind) (i : ℕ) (s : KeywordKind) → length ws ≡ length ss → i < length ws → get_or ss i s ≡ s → keyword_done (shown ws ss) i ≡ s.is_done
done_shown [] ss i s e l at = absurd (omega (arith, l))
done_shown (w ∷ ws) [] i s e l at = absurd (omega (arith, e))
done_shown (w ∷ ws) (t ∷ ss) zero s e l at = ap (λ (x : KeywordKind). x.is_done) at
done_shown (w ∷ ws) (t ∷ ss) (suc i) s e l at = done_shown ws ss i s (omega (arith, e)) (omega (arith, l)) at

pub first_shown : (ws : Texts) (ss : List KeywordKind) (i : ℕ) (s : KeywordKind) → length ws ≡ length ss → i < length ws → get_or ss i s ≡ s → keyword_first (shown ws ss) i ≡ s.first
first_shown [] ss i s e l at = absurd (omega (arith, l))
first_shown (w ∷ ws) [] i s e l at = absurd (omega (arith, e))
first_shown (w ∷ ws) (t ∷ ss) zero s e l at = ap (λ (x : KeywordKind). x.first) at
first_shown (w ∷ ws) (t ∷ ss) (suc i) s e l at = first_shown ws ss i s (omega (arith, e)) (omega (arith, l)) at

-- the word at a place is the keyword's
pub word_shown : (ws : Texts) (ss : List KeywordKind) (i : ℕ) → length ws ≡ length ss → get_or ws i [] ≡ keyword_word (shown ws ss) i
word_shown [] ss i e = refl
word_shown (w ∷ ws) [] i e = absurd (omega (arith, e))
word_shown (w ∷ ws) (s ∷ ss) zero e = refl
word_shown (w ∷ ws) (s ∷ ss) (suc i) e = word_shown ws ss i (omega (arith, e))

pub no_word : (ws : Texts) (i : ℕ) → length ws ≤ i → [] ≡ get_or ws i []
no_word [] i l = refl
no_word (w ∷ ws) zero l = absurd (omega (arith, l))
no_word (w ∷ ws) (suc i) l = no_word ws i (omega (arith, l))

pub added : (done : Bool) (first : ℕ) (ks : List Keyword) (w : List ℕ) → is_named w ≡ true → is_some (keyword_place ks (without_parens w)) ≡ false →
    add_word done first ks w ≡ ks ++ record { word = without_parens w; done = done; first = first } ∷ []
added done first ks w named new =
    ap (λ c. cond c (with_new ks (record { word = without_parens w; done = done; first = first })) ks) named
    ∙ ap (λ c. cond c ks (ks ++ record { word = without_parens w; done = done; first = first } ∷ [])) new

pub kept : (done : Bool) (first : ℕ) (ks : List Keyword) (w : List ℕ) → is_named w ≡ true → is_some (keyword_place ks (without_parens w)) ≡ true →
    add_word done first ks w ≡ ks
kept done first ks w named old =
    ap (λ c. cond c (with_new ks (record { word = without_parens w; done = done; first = first })) ks) named
    ∙ ap (λ c. cond c ks (ks ++ record { word = without_parens w; done = done; first = first } ∷ [])) old
