-- Parts of names have no line feed.
use Rattle.std.proofs.Common.{◌≡◌, ℕ, Bool, true, false, cond, List, [], ◌∷◌, ◌++◌, refl, arith}
use Rattle.std.specs.Prelude.{◌≢◌, ◌&&◌, nat_lt}
use Rattle.std.specs.List.{AllByRecursion}
use Rattle.org_ids.specs.Names.{OnWay, IdHeading, enter, is_inner, lower, one_line, words_of}
use Rattle.org_ids.specs.Words.{beside_cookies, gap, is_blank, plain_words, words_text}

-- no line feed
abbrev pub NoFeed : List ℕ → Type 0
NoFeed bytes = AllByRecursion (λ (b : ℕ). b ≢ 10) bytes

inner_is : (b : ℕ) → is_inner b ≡ true → b ≢ 10
inner_is b h e = absurd cc

line_step : (b : ℕ) (rest : List ℕ) (t : Bool) → is_inner b ≡ t → NoFeed rest → NoFeed (cond t (b ∷ rest) rest)
line_step b rest true h plain = (inner_is b h, plain)
line_step b rest false h plain = plain

pub line_plain : (bytes : List ℕ) → NoFeed (one_line bytes)
line_plain [] = _
line_plain (b ∷ bytes) = line_step b (one_line bytes) (is_inner b) refl (line_plain bytes)

word_is : (b : ℕ) → is_blank b ≡ false → b ≢ 10
word_is b h e = absurd cc

behind_gap : (t : Bool) (b : ℕ) (bytes : List ℕ) → b ≢ 10 → NoFeed bytes → NoFeed ((gap t ++ b ∷ []) ++ bytes)
behind_gap true b bytes own rest = ((λ e. omega (arith, e)), (own, rest))
behind_gap false b bytes own rest = (own, rest)

words_step : (b : ℕ) (here there : List ℕ) (g t : Bool) → is_blank b ≡ t → NoFeed here → NoFeed there → NoFeed (cond t here ((gap g ++ b ∷ []) ++ there))
words_step b here there g true h own other = own
words_step b here there g false h own other = behind_gap g b there (word_is b h) other

words_plain : (has apart : Bool) (bytes : List ℕ) → NoFeed (words_text has apart bytes)
words_plain has apart [] = _
words_plain has apart (b ∷ bytes) =
    words_step b (words_text has true bytes) (words_text true false bytes) (has && apart) (is_blank b) refl (words_plain has true bytes) (words_plain true false bytes)

pub title_plain : (title : List ℕ) → NoFeed (plain_words title)
title_plain title = words_plain false false (beside_cookies 0 title)

-- all words on a way
abbrev pub ArePlain : List (List ℕ) → Type 0
ArePlain titles = AllByRecursion NoFeed titles

plain_behind : (way : List OnWay) (words : List ℕ) (level : ℕ) → ArePlain (words_of way) → NoFeed words → ArePlain (words_of (way ++ record { level = level; words = words } ∷ []))
plain_behind [] words level before own = (own, _)
plain_behind (it ∷ way) words level before own = (before.0, plain_behind way words level before.1 own)

lower_step : (it : OnWay) (rest : List OnWay) (t : Bool) → NoFeed it.words → ArePlain (words_of rest) → ArePlain (words_of (cond t (it ∷ rest) []))
lower_step it rest true own plain = (own, plain)
lower_step it rest false own plain = _

plain_lower : (level : ℕ) (way : List OnWay) → ArePlain (words_of way) → ArePlain (words_of (lower level way))
plain_lower level [] before = _
plain_lower level (it ∷ way) before = lower_step it (lower level way) (nat_lt it.level level) before.0 (plain_lower level way before.1)

pub plain_way : (way : List OnWay) (h : IdHeading) → ArePlain (words_of way) → ArePlain (words_of (enter way h))
plain_way way h before = plain_behind (lower h.level way) (plain_words h.title) h.level (plain_lower h.level way before) (title_plain h.title)
