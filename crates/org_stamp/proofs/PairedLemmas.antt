-- The pairs of a planning line are those that are spelled in it.
use Rattle.std.proofs.Common.{◌≡◌, ℕ, zero, suc, ◌+◌, ◌-◌, ◌≤◌, inl, inr, Bool, true, false, cond, List, [], ◌∷◌, ◌++◌, length, take, drop, refl, sym, subst, ◌∙◌, ap, arith, codes, length-append, length-take, append_assoc}
use Rattle.std.specs.Prelude.{Option, Some, None, IsSomeAnd, nat_eq}
use Rattle.std.specs.List.{AllByRecursion, prefix_len, starts_with}
use Rattle.std.specs.Option.{option_and_then, option_map}
use Rattle.std.proofs.lemmas.Bool.{cases_Bool}
use Rattle.std.proofs.lemmas.Bool.Decides.{Decides-eqb}
use Rattle.std.proofs.lemmas.List.{take-append-drop, drop-drop}
use Rattle.std.proofs.lemmas.List.Folds.{length-prefix_len}
use Rattle.std.proofs.lemmas.Option.{option_and_then_some}
use Rattle.std.proofs.lemmas.Slice.Eq.{starts_is}
use Rattle.org_base.specs.Words.{is_space}
use Rattle.org_cal.proofs.TextLemmas.{chosen}
use Rattle.org_stamp.specs.declared.pair.Pair.{Pair}
use Rattle.org_stamp.specs.declared.pair.PlanningKeyword.{PlanningKeyword}
use Rattle.org_stamp.specs.declared.pair.PlanningKeyword.TheVariants.{Scheduled, Deadline, Closed}
use Rattle.org_stamp.specs.declared.stamp.Stamp.{Stamp}
use Rattle.org_stamp.specs.Laws.{PairsAreSpelled, SpansAreStamps}
use Rattle.org_stamp.specs.Pair.{pair_at, pair_of, pairs, pairs_from, past_spaces, word_at}
use Rattle.org_stamp.proofs.PairWords.{pair_and}
use Rattle.org_stamp.specs.Paired.{ArePairs, IsLongest, IsPairAt, keyword_text}
use Rattle.org_stamp.specs.Read.{single_of, stamp_of}
use Rattle.org_stamp.specs.Spaced.{IsGap}
use Rattle.org_stamp.specs.Stamp.{IsSingle, IsStamp, open_of}
use Rattle.org_stamp.proofs.PairLemmas.{NoSpace, no_space, none_here, past_gap, skip, step}
use Rattle.org_stamp.proofs.ReadLemmas.{single_found, single_only, stamp_found, stamp_longest}
use Rattle.org_stamp.proofs.SpacedLemmas.{drop_front, gap_front, take_front}
use Rattle.org_stamp.proofs.SpelledMarkLemmas.{mapped}

-- a pair that is read at a place

record IsWordAt (bs : List ℕ) (found : PlanningKeyword × ℕ) : Type 0 where
  pub len_is : found.1 ≡ length (keyword_text found.0)
  pub text_is : bs ≡ keyword_text found.0 ++ drop found.1 bs

is_word : (bs : List ℕ) (w : PlanningKeyword) (n : ℕ) (found : PlanningKeyword × ℕ) → n ≡ length (keyword_text w) → starts_with nat_eq bs (keyword_text w) ≡ true →
    ◌≡◌ {A = Option (PlanningKeyword × ℕ)} (Some (w, n)) (Some found) → IsWordAt bs found
is_word bs w n found len starts same =
    let is : (w, n) ≡ found = cc in
    let spelled = (starts_is Decides-eqb bs (keyword_text w) (starts_with nat_eq bs (keyword_text w)) refl).0 starts in
    subst (IsWordAt bs) is (record { len_is = len; text_is = spelled ∙ ap (λ k. keyword_text w ++ drop k bs) (sym len) })

word_is : (bs : List ℕ) (found : PlanningKeyword × ℕ) → word_at bs ≡ Some found → IsWordAt bs found
word_is bs found e =
    chosen (starts_with nat_eq bs (codes "SCHEDULED:")) _ _ _ e (λ is same. is_word bs Scheduled 10 found refl is same)
    (λ no e. chosen (starts_with nat_eq bs (codes "DEADLINE:")) _ _ _ e (λ is same. is_word bs Deadline 9 found refl is same)
    (λ no e. chosen (starts_with nat_eq bs (codes "CLOSED:")) _ _ _ e (λ is same. is_word bs Closed 7 found refl is same)
    (λ no e. absurd (cc))))

record IsPairOf (word : PlanningKeyword) (at : ℕ) (bs : List ℕ) (p : Pair) : Type 0 where
  pub single : List ℕ
  pub more : List ℕ
  pub rest : List ℕ
  pub whole : Stamp
  pub text_is : bs ≡ (single ++ more) ++ rest
  pub single_is : IsSingle single p.stamp
  pub stamp_is : IsStamp (single ++ more) whole
  pub longest : IsLongest (single ++ more) rest
  pub word_is : p.word ≡ word
  pub at_is : p.at ≡ at
  pub len_is : p.len ≡ length single
  pub end_is : p.end ≡ p.at + length (single ++ more)

-- what is longest where a stamp is read
longest_read : (bs : List ℕ) (all : Stamp × ℕ) (bytes left : List ℕ) (s : Stamp) → stamp_of bs ≡ Some all → bs ≡ bytes ++ left → IsStamp bytes s → length bytes ≤ all.1
longest_read bs all bytes left s read split is =
    let long = stamp_longest bytes left s is in
    let same : stamp_of (bytes ++ left) ≡ Some all = ap stamp_of (sym split) ∙ read in
    (subst (λ (o : Option (Stamp × ℕ)). IsSomeAnd o (λ r. (length bytes ≤ r.1) × (length bytes ≡ r.1 → s ≡ r.0))) same long).0

taken : (n : ℕ) (bs : List ℕ) → n ≤ length bs → length (take n bs) ≡ n
taken n bs le = omega (arith, length-take n bs, le)

shorter : (m n : ℕ) (bs : List ℕ) → m ≤ n → take m bs ++ drop m (take n bs) ≡ take n bs
shorter zero n bs le = refl
shorter (suc m) zero bs le = absurd (omega (arith, le))
shorter (suc m) (suc n) [] le = refl
shorter (suc m) (suc n) (b ∷ bs) le = ap (λ t. b ∷ t) (shorter m n bs (omega (arith, le)))

pair_read : (word : PlanningKeyword) (at : ℕ) (bs : List ℕ) (first all : Stamp × ℕ) → single_of bs ≡ Some first → stamp_of bs ≡ Some all →
    IsPairOf word at bs (record { word = word; stamp = first.0; at = at; len = first.1; end = at + all.1 })
pair_read word at bs first all one read =
    let s = single_found bs first.0 first.1 one in
    let w = stamp_found bs all.0 all.1 read in
    let le : first.1 ≤ all.1 = (let long = longest_read bs all (take first.1 bs) (drop first.1 bs) first.0 read (sym (take-append-drop first.1 bs)) (inl s.1) in omega (arith, long, taken first.1 bs s.0)) in
    let joined : take first.1 bs ++ drop first.1 (take all.1 bs) ≡ take all.1 bs = shorter first.1 all.1 bs le in
    let size : length (take first.1 bs ++ drop first.1 (take all.1 bs)) ≡ all.1 = ap length joined ∙ taken all.1 bs w.0 in
    let split : bs ≡ (take first.1 bs ++ drop first.1 (take all.1 bs)) ++ drop all.1 bs = sym (take-append-drop all.1 bs) ∙ ap (λ t. t ++ drop all.1 bs) (sym joined) in
    record {
      single = take first.1 bs;
      more = drop first.1 (take all.1 bs);
      rest = drop all.1 bs;
      whole = all.0;
      text_is = split;
      single_is = s.1;
      stamp_is = subst (λ t. IsStamp t all.0) (sym joined) w.1;
      longest = λ bytes left t same is. omega (arith, size, longest_read bs all bytes left t read (split ∙ same) is);
      word_is = refl;
      at_is = refl;
      len_is = sym (taken first.1 bs s.0);
      end_is = ap (λ k. at + k) (sym size);
    }

pair_of_is : (word : PlanningKeyword) (at : ℕ) (bs : List ℕ) (p : Pair) → pair_of word at bs ≡ Some p → IsPairOf word at bs p
pair_of_is word at bs p e =
    option_and_then_some _ (stamp_of bs) p e (λ all read next.
    mapped _ (single_of bs) p next (λ first one is. subst (IsPairOf word at bs) is (pair_read word at bs first all one read)))

-- after a gap
record PairRead (text : List ℕ) (at : ℕ) (p : Pair) : Type 0 where
  pub rest : List ℕ
  pub is : IsPairAt text at p rest

pair_at_is : (text : List ℕ) (at : ℕ) (p : Pair) → pair_at (at + prefix_len is_space text) (drop (prefix_len is_space text) text) ≡ Some p → PairRead text at p
pair_at_is text at p e =
    let n = prefix_len is_space text in
    let bs = drop n text in
    option_and_then_some _ (word_at bs) p e (λ found was next.
    let w = word_is bs found was in
    let tail = drop found.1 bs in
    let g = prefix_len is_space tail in
    let r = pair_of_is found.0 (at + n + (found.1 + g)) (past_spaces tail) p next in
    let word : found.0 ≡ p.word = sym r.word_is in
    record {
      rest = r.rest;
      is = record {
        gap = take n text;
        space = take g tail;
        single = r.single;
        more = r.more;
        whole = r.whole;
        text_is =
            sym (take-append-drop n text)
            ∙ ap (λ t. take n text ++ t)
            (w.text_is ∙ (ap (λ k. keyword_text k ++ tail) word ∙ ap (λ t. keyword_text p.word ++ t) (sym (take-append-drop g tail) ∙ ap (λ t. take g tail ++ t) r.text_is)));
        gap_is = gap_front text;
        space_is = gap_front tail;
        single_is = r.single_is;
        stamp_is = r.stamp_is;
        longest = r.longest;
        at_is = let size : length (keyword_text found.0) ≡ length (keyword_text p.word) = ap (λ k. length (keyword_text k)) word in
            omega (arith, r.at_is, w.len_is, size, spaces text, spaces tail);
        len_is = r.len_is;
        end_is = r.end_is;
      };
    })
  where
    spaces : (bs : List ℕ) → length (take (prefix_len is_space bs) bs) ≡ prefix_len is_space bs
    spaces bs = length-prefix_len is_space bs

-- a pair that is spelled

no_gap_follows : (gap : List ℕ) (body : List ℕ) → IsGap gap → NoSpace body → prefix_len is_space (gap ++ body) ≡ length gap
no_gap_follows [] [] h none = refl
no_gap_follows [] (b ∷ bs) h none = rw none refl
no_gap_follows (b ∷ gap) body h none = elim (cases_Bool (is_space b)) [
  | inl space ↦ rw space (let more = no_gap_follows gap body (rw space at h) none in omega (arith, more))
  | inr letter ↦ absurd (let wrong : false ≡ true = rw letter at h in cc)
]

past : (gap body : List ℕ) → IsGap gap → NoSpace body → past_spaces (gap ++ body) ≡ body
past gap body h none = ap (λ k. drop k (gap ++ body)) (no_gap_follows gap body h none) ∙ drop_front gap body

open_no_space : (a : Bool) → is_space (open_of a) ≡ false
open_no_space true = refl
open_no_space false = refl

single_open : (single tail : List ℕ) (s : Stamp) → IsSingle single s → NoSpace (single ++ tail)
single_open single tail s h = subst (λ t. NoSpace (t ++ tail)) (sym h.bytes_is) (open_no_space s.active)

word_open : (w : PlanningKeyword) (tail : List ℕ) → NoSpace (keyword_text w ++ tail)
word_open Scheduled tail = refl
word_open Deadline tail = refl
word_open Closed tail = refl

word_back : (w : PlanningKeyword) (tail : List ℕ) → word_at (keyword_text w ++ tail) ≡ Some (w, length (keyword_text w))
word_back Scheduled tail = refl
word_back Deadline tail = refl
word_back Closed tail = refl

-- the stamp that is the longest is the one that is read
stamp_back : (stamp rest : List ℕ) (s : Stamp) → IsStamp stamp s → IsLongest stamp rest → (whole : Stamp) × (stamp_of (stamp ++ rest) ≡ Some (whole, length stamp))
stamp_back stamp rest s is longest = by (stamp_of (stamp ++ rest)) refl (stamp_longest stamp rest s is)
  where
    by : (o : Option (Stamp × ℕ)) → stamp_of (stamp ++ rest) ≡ o → IsSomeAnd o (λ r. (length stamp ≤ r.1) × (length stamp ≡ r.1 → s ≡ r.0)) → (whole : Stamp) × (stamp_of (stamp ++ rest) ≡ Some (whole, length stamp))
    by None e h = absurd h
    by (Some r) e h =
        let found = stamp_found (stamp ++ rest) r.0 r.1 e in
        let most = longest (take r.1 (stamp ++ rest)) (drop r.1 (stamp ++ rest)) r.0 (sym (take-append-drop r.1 (stamp ++ rest))) found.1 in
        let same : r.1 ≡ length stamp = omega (arith, h.0, most, taken r.1 (stamp ++ rest) found.0) in
        (r.0, e ∙ ap (λ k. Some (r.0, k)) same)

same_pair : (p : Pair) (at len end : ℕ) → p.at ≡ at → p.len ≡ len → p.end ≡ end → record { word = p.word; stamp = p.stamp; at = at; len = len; end = end } ≡ p
same_pair p at len end a b c =
    ap (λ k. record { word = p.word; stamp = p.stamp; at = k; len = len; end = end }) (sym a)
    ∙ (ap (λ k. record { word = p.word; stamp = p.stamp; at = p.at; len = k; end = end }) (sym b)
    ∙ ap (λ k. record { word = p.word; stamp = p.stamp; at = p.at; len = p.len; end = k }) (sym c))

pair_of_back : (p : Pair) (at : ℕ) (single more rest : List ℕ) (whole : Stamp) → IsSingle single p.stamp → IsStamp (single ++ more) whole → IsLongest (single ++ more) rest →
    p.at ≡ at → p.len ≡ length single → p.end ≡ p.at + length (single ++ more) → pair_of p.word at ((single ++ more) ++ rest) ≡ Some p
pair_of_back p at single more rest whole one is longest a b c =
    let found = stamp_back (single ++ more) rest whole is longest in
    let first : single_of ((single ++ more) ++ rest) ≡ Some (p.stamp, length single) = ap single_of (append_assoc single more rest) ∙ single_only single (more ++ rest) p.stamp one in
    ap (λ o. option_and_then (λ (all : Stamp × ℕ). option_map (λ (f : Stamp × ℕ). record { word = p.word; stamp = f.0; at = at; len = f.1; end = at + all.1 }) (single_of ((single ++ more) ++ rest))) o) found.1
    ∙ (ap (λ o. option_map (λ (f : Stamp × ℕ). record { word = p.word; stamp = f.0; at = at; len = f.1; end = at + length (single ++ more) }) o) first
    ∙ ap Some (same_pair p at (length single) (at + length (single ++ more)) a b (omega (arith, a, c))))

pair_back : (text : List ℕ) (at : ℕ) (p : Pair) (rest : List ℕ) → IsPairAt text at p rest → pair_at (at + prefix_len is_space text) (drop (prefix_len is_space text) text) ≡ Some p
pair_back text at p rest h =
    let word = keyword_text p.word in
    let stamp = h.single ++ h.more in
    let tail = h.space ++ (stamp ++ rest) in
    let body = word ++ tail in
    let begins : NoSpace (stamp ++ rest) = subst NoSpace (sym (append_assoc h.single h.more rest)) (single_open h.single (h.more ++ rest) p.stamp h.single_is) in
    let n : prefix_len is_space text ≡ length h.gap = ap (prefix_len is_space) h.text_is ∙ no_gap_follows h.gap body h.gap_is (word_open p.word tail) in
    let bs : drop (prefix_len is_space text) text ≡ body = ap (λ k. drop k text) n ∙ (ap (drop (length h.gap)) h.text_is ∙ drop_front h.gap body) in
    let g : prefix_len is_space tail ≡ length h.space = no_gap_follows h.space (stamp ++ rest) h.space_is begins in
    ap (pair_at (at + prefix_len is_space text)) bs
    ∙ (ap (option_and_then (λ (k : PlanningKeyword × ℕ). let left = drop k.1 body in pair_of k.0 (at + prefix_len is_space text + (k.1 + prefix_len is_space left)) (past_spaces left))) (word_back p.word tail)
    ∙ (ap (λ left. pair_of p.word (at + prefix_len is_space text + (length word + prefix_len is_space left)) (past_spaces left)) (drop_front word tail)
    ∙ (ap (pair_of p.word (at + prefix_len is_space text + (length word + prefix_len is_space tail))) (past h.space (stamp ++ rest) h.space_is begins)
    ∙ pair_of_back p (at + prefix_len is_space text + (length word + prefix_len is_space tail)) h.single h.more rest h.whole h.single_is h.stamp_is h.longest (omega (arith, h.at_is, n, g)) h.len_is h.end_is)))

-- a pair comes first, and then those after it

after : (front rest : List ℕ) (a : ℕ) (p : Pair) → 1 ≤ length front → NoSpace (front ++ rest) → pair_at a (front ++ rest) ≡ Some p → p.end ≡ a + length front →
    pairs_from (front ++ rest) a 0 ≡ p ∷ pairs_from rest p.end 0
after [] rest a p some none read end = absurd (omega (arith, some))
after (b ∷ bs) rest a p some none read end =
    let k : p.end - (a + 1) ≡ length bs = omega (arith, end) in
    let place : a + 1 + length bs ≡ p.end = omega (arith, end) in
    step b (bs ++ rest) a
    ∙ (ap (λ t. cond t (pairs_from (bs ++ rest) (a + 1) 0) (pair_and a (pairs_from (bs ++ rest) (a + 1)) (pair_at a (b ∷ (bs ++ rest))))) none
    ∙ (ap (pair_and a (pairs_from (bs ++ rest) (a + 1))) read
    ∙ ap (λ ps. p ∷ ps)
    (ap (pairs_from (bs ++ rest) (a + 1)) k
    ∙ (skip (bs ++ rest) (a + 1) (length bs)
    ∙ (ap (λ t. pairs_from t (a + 1 + length bs) 0) (drop_front bs rest) ∙ ap (λ j. pairs_from rest j 0) place)))))

first_pair : (text : List ℕ) (at : ℕ) (p : Pair) (rest : List ℕ) → IsPairAt text at p rest → pairs_from text at 0 ≡ p ∷ pairs_from rest p.end 0
first_pair text at p rest h =
    let word = keyword_text p.word in
    let stamp = h.single ++ h.more in
    let front = word ++ (h.space ++ stamp) in
    let body = word ++ (h.space ++ (stamp ++ rest)) in
    let whole : body ≡ front ++ rest = ap (λ t. word ++ t) (sym (append_assoc h.space stamp rest)) ∙ sym (append_assoc word (h.space ++ stamp) rest) in
    let n : prefix_len is_space text ≡ length h.gap = ap (prefix_len is_space) h.text_is ∙ no_gap_follows h.gap body h.gap_is (word_open p.word (h.space ++ (stamp ++ rest))) in
    let bs : drop (prefix_len is_space text) text ≡ front ++ rest = ap (λ k. drop k text) n ∙ (ap (drop (length h.gap)) h.text_is ∙ (drop_front h.gap body ∙ whole)) in
    let read : pair_at (at + prefix_len is_space text) (front ++ rest) ≡ Some p = ap (pair_at (at + prefix_len is_space text)) (sym bs) ∙ pair_back text at p rest h in
    let size : length front ≡ length word + (length h.space + length stamp) = length-append word (h.space ++ stamp) ∙ ap (λ k. length word + k) (length-append h.space stamp) in
    past_gap text at
    ∙ (ap (λ t. pairs_from t (at + prefix_len is_space text) 0) bs
    ∙ after front rest (at + prefix_len is_space text) p (omega (arith, size, word_long p.word)) (subst NoSpace whole (word_open p.word (h.space ++ (stamp ++ rest)))) read (omega (arith, h.end_is, h.at_is, n, size)))
  where
    word_long : (w : PlanningKeyword) → 1 ≤ length (keyword_text w)
    word_long Scheduled = omega arith
    word_long Deadline = omega arith
    word_long Closed = omega arith

-- where none is spelled, none comes
no_pair : (text : List ℕ) (at : ℕ) → ((p : Pair) (rest : List ℕ) → IsPairAt text at p rest → ⊥) → pairs_from text at 0 ≡ []
no_pair text at none = by (pair_at (at + prefix_len is_space text) (drop (prefix_len is_space text) text)) refl
  where
    by : (o : Option Pair) → pair_at (at + prefix_len is_space text) (drop (prefix_len is_space text) text) ≡ o → pairs_from text at 0 ≡ []
    by None e = past_gap text at ∙ none_here (drop (prefix_len is_space text) text) (at + prefix_len is_space text) (no_space text) e
    by (Some p) e = let found = pair_at_is text at p e in absurd (none p found.rest found.is)

some_pair : (text : List ℕ) (at : ℕ) (p : Pair) (ps : List Pair) → pairs_from text at 0 ≡ p ∷ ps → (rest : List ℕ) × IsPairAt text at p rest × (pairs_from rest p.end 0 ≡ ps)
some_pair text at p ps e = by (pair_at (at + prefix_len is_space text) (drop (prefix_len is_space text) text)) refl
  where
    by : (o : Option Pair) → pair_at (at + prefix_len is_space text) (drop (prefix_len is_space text) text) ≡ o → (rest : List ℕ) × IsPairAt text at p rest × (pairs_from rest p.end 0 ≡ ps)
    by None none = absurd (let nothing : pairs_from text at 0 ≡ [] = past_gap text at ∙ none_here (drop (prefix_len is_space text) text) (at + prefix_len is_space text) (no_space text) none in let wrong = sym nothing ∙ e in cc)
    by (Some q) read =
        let found = pair_at_is text at q read in
        let both : q ∷ pairs_from found.rest q.end 0 ≡ p ∷ ps = sym (first_pair text at q found.rest found.is) ∙ e in
        let same : q ≡ p = cc in
        let others : pairs_from found.rest q.end 0 ≡ ps = ap (drop 1) both in
        (found.rest, subst (λ r. IsPairAt text at r found.rest) same found.is, ap (λ (r : Pair). pairs_from found.rest r.end 0) (sym same) ∙ others)

are_pairs : (ps : List Pair) (text : List ℕ) (at : ℕ) → pairs_from text at 0 ≡ ps → ArePairs text at ps
are_pairs [] text at e = λ p rest h. absurd (let wrong = sym e ∙ first_pair text at p rest h in cc)
are_pairs (p ∷ ps) text at e =
    let found = some_pair text at p ps e in
    (found.0, found.1, are_pairs ps found.0 p.end found.2)

pairs_back : (ps : List Pair) (text : List ℕ) (at : ℕ) → ArePairs text at ps → pairs_from text at 0 ≡ ps
pairs_back [] text at h = no_pair text at h
pairs_back (p ∷ ps) text at h = first_pair text at p h.0 h.1 ∙ ap (λ qs. p ∷ qs) (pairs_back ps h.0 p.end h.2)

pub pairs_are_spelled : PairsAreSpelled
pairs_are_spelled line ps = (are_pairs ps line 0, pairs_back ps line 0)

-- the spans of stamps

stamp_there : (line text : List ℕ) (at : ℕ) (p : Pair) (rest : List ℕ) → drop at line ≡ text → IsPairAt text at p rest → (IsSingle (take p.len (drop p.at line)) p.stamp) × (drop p.end line ≡ rest)
stamp_there line text at p rest is h =
    let word = keyword_text p.word in
    let stamp = h.single ++ h.more in
    let front = h.gap ++ (word ++ h.space) in
    let size : length front ≡ length h.gap + (length word + length h.space) = length-append h.gap (word ++ h.space) ∙ ap (λ k. length h.gap + k) (length-append word h.space) in
    let split : text ≡ front ++ (stamp ++ rest) =
    h.text_is ∙ (ap (λ t. h.gap ++ t) (sym (append_assoc word h.space (stamp ++ rest))) ∙ sym (append_assoc h.gap (word ++ h.space) (stamp ++ rest))) in
    let place : at + length front ≡ p.at = omega (arith, h.at_is, size) in
    let there : drop p.at line ≡ stamp ++ rest =
    ap (λ k. drop k line) (sym place) ∙ (sym (drop-drop (length front) at line) ∙ (ap (drop (length front)) (is ∙ split) ∙ drop_front front (stamp ++ rest))) in
    let first : take p.len (drop p.at line) ≡ h.single = ap (take p.len) (there ∙ append_assoc h.single h.more rest) ∙ (ap (λ k. take k (h.single ++ (h.more ++ rest))) h.len_is ∙ take_front h.single (h.more ++ rest)) in (
      subst (λ t. IsSingle t p.stamp) (sym first) h.single_is,
      ap (λ k. drop k line) h.end_is ∙ (sym (drop-drop (length stamp) p.at line) ∙ (ap (drop (length stamp)) there ∙ drop_front stamp rest)),
    )

all_there : (ps : List Pair) (line text : List ℕ) (at : ℕ) → drop at line ≡ text → ArePairs text at ps → AllByRecursion (λ (p : Pair). IsSingle (take p.len (drop p.at line)) p.stamp) ps
all_there [] line text at is h = tt
all_there (p ∷ ps) line text at is h =
    let there = stamp_there line text at p h.0 is h.1 in
    (there.0, all_there ps line h.0 p.end there.1 h.2)

pub spans_are_stamps : SpansAreStamps
spans_are_stamps line = all_there (pairs line) line line 0 refl (are_pairs (pairs line) line 0 refl)
