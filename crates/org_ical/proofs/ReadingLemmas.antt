-- Content lines are read back.
use Rattle.std.proofs.Common.{◌≡◌, ◌∙◌, ℕ, ◌+◌, ◌<◌, ◌≤◌, Bool, true, false, cond, not, List, [], ◌∷◌, ◌++◌, refl, sym, ap, arith}
use Rattle.std.specs.Prelude.{◌&&◌, ◌==◌, nat_lt}
use Rattle.std.proofs.lemmas.Bool.{and_parts}
use Rattle.std.proofs.lemmas.Bool.Decides.{nat_tests}
use Rattle.std.proofs.lemmas.List.{append_assoc}
use Rattle.org_ical.specs.Lines.{char_octets, folded_behind, is_past, octet_text, used_with, written, written_line}
use Rattle.org_ical.specs.Reading.{are_short, content_lines, cut_behind, is_blank, join_next, unfolded}
use Rattle.org_ical.specs.Texts.{put}
use Rattle.org_ical.specs.declared.line.TheConstants.{MOST_OCTETS}
use Rattle.org_ical.proofs.ValueLemmas.{put_all}

-- an octet that ends no line
abbrev pub is_inner : ℕ → Bool
is_inner octet = not (octet == 13) && not (octet == 10)

-- octets that end no line
abbrev pub are_inner : List ℕ → Bool
are_inner [] = true
are_inner (octet ∷ octets) = is_inner octet && are_inner octets

-- a line that doesn't go on with the one before
abbrev pub begins_blank : List ℕ → Bool
begins_blank [] = false
begins_blank (octet ∷ octets) = is_blank octet

abbrev pub is_content : List ℕ → Bool
is_content line = not (begins_blank line) && are_inner line

abbrev pub are_content : List (List ℕ) → Bool
are_content [] = true
are_content (line ∷ lines) = is_content line && are_content lines

not_true : (b : Bool) → not b ≡ true → b ≡ false
not_true true e = absurd cc
not_true false e = refl

join-put : (b : ℕ) (line : List ℕ) (lines : List (List ℕ)) → join_next (b ∷ line) lines ≡ put b (join_next line lines)
join-put b line [] = refl
join-put b line ([] ∷ lines) = refl
join-put b line ((o ∷ os) ∷ lines) = by (is_blank o)
  where
    by : (t : Bool) → cond t (((b ∷ line) ++ os) ∷ lines) ((b ∷ line) ∷ (o ∷ os) ∷ lines) ≡ put b (cond t ((line ++ os) ∷ lines) (line ∷ (o ∷ os) ∷ lines))
    by true = refl
    by false = refl

unfolded-put : (b : ℕ) (lines : List (List ℕ)) → unfolded (put b lines) ≡ put b (unfolded lines)
unfolded-put b [] = refl
unfolded-put b (line ∷ lines) = join-put b line (unfolded lines)

fold_goes : (b : ℕ) (lines : List (List ℕ)) → join_next [] (put 32 (put b lines)) ≡ put b lines
fold_goes b [] = refl
fold_goes b (line ∷ lines) = refl

inner_cut : (b : ℕ) (rest : List ℕ) → (b == 13) ≡ false → cut_behind false (b ∷ rest) ≡ put b (cut_behind false rest)
inner_cut b rest e = ap (λ t. cond t (cut_behind true rest) (put b (cut_behind false rest))) e

octet_back : (used b : ℕ) (rest : List ℕ) → (b == 13) ≡ false → unfolded (cut_behind false (octet_text used b ++ rest)) ≡ put b (unfolded (cut_behind false rest))
octet_back used b rest e = by (is_past used b)
  where
    by : (t : Bool) → unfolded (cut_behind false (cond t (13 ∷ 10 ∷ 32 ∷ b ∷ []) (b ∷ []) ++ rest)) ≡ put b (unfolded (cut_behind false rest))
    by true =
        ap (λ c. join_next [] (unfolded (put 32 c))) (inner_cut b rest e)
        ∙ ap (join_next []) (unfolded-put 32 (put b (cut_behind false rest)) ∙ ap (put 32) (unfolded-put b (cut_behind false rest)))
        ∙ fold_goes b (unfolded (cut_behind false rest))
    by false = ap unfolded (inner_cut b rest e) ∙ unfolded-put b (cut_behind false rest)

octets_back : (used : ℕ) (line rest : List ℕ) → are_inner line ≡ true → unfolded (cut_behind false (folded_behind used line ++ rest)) ≡ put_all line (unfolded (cut_behind false rest))
octets_back used [] rest e = refl
octets_back used (b ∷ bs) rest e =
    let own = and_parts (is_inner b) (are_inner bs) e in
    let first = and_parts (not (b == 13)) (not (b == 10)) own.0 in
    ap (λ s. unfolded (cut_behind false s)) (append_assoc (octet_text used b) (folded_behind (used_with used b) bs) rest)
    ∙ octet_back used b (folded_behind (used_with used b) bs ++ rest) (not_true (b == 13) first.0)
    ∙ ap (put b) (octets_back (used_with used b) bs rest own.1)

put_all-join : (line : List ℕ) (lines : List (List ℕ)) → put_all line (join_next [] lines) ≡ join_next line lines
put_all-join [] lines = refl
put_all-join (b ∷ bs) lines = ap (put b) (put_all-join bs lines) ∙ sym (join-put b bs lines)

line_back : (line stream : List ℕ) → are_inner line ≡ true → content_lines (written_line line ++ stream) ≡ join_next line (content_lines stream)
line_back line stream e =
    ap (λ s. unfolded (cut_behind false s)) (append_assoc (folded_behind 0 line) (13 ∷ 10 ∷ []) stream)
    ∙ octets_back 0 line (13 ∷ 10 ∷ stream) e
    ∙ put_all-join line (content_lines stream)

stands : (line : List ℕ) (lines : List (List ℕ)) → are_content lines ≡ true → join_next line lines ≡ line ∷ lines
stands line [] e = refl
stands line ([] ∷ lines) e = refl
stands line ((o ∷ os) ∷ lines) e =
    let own = and_parts (is_content (o ∷ os)) (are_content lines) e in
    let first = and_parts (not (is_blank o)) (are_inner (o ∷ os)) own.0 in
    ap (λ t. cond t ((line ++ os) ∷ lines) (line ∷ (o ∷ os) ∷ lines)) (not_true (is_blank o) first.0)

pub lines_back : (lines : List (List ℕ)) → are_content lines ≡ true → content_lines (written lines) ≡ lines
lines_back [] e = refl
lines_back (line ∷ lines) e =
    let own = and_parts (is_content line) (are_content lines) e in
    let first = and_parts (not (begins_blank line)) (are_inner line) own.0 in
    line_back line (written lines) first.1
    ∙ ap (join_next line) (lines_back lines own.1)
    ∙ stands line lines own.1

-- ---- lines are short

some_octets : (b : ℕ) → 1 ≤ char_octets b
some_octets b = first (nat_lt b 192)
  where
    third : (t : Bool) → 1 ≤ cond t 3 4
    third true = omega arith
    third false = omega arith

    second : (t : Bool) → 1 ≤ cond t 2 (cond (nat_lt b 240) 3 4)
    second true = omega arith
    second false = third (nat_lt b 240)

    first : (t : Bool) → 1 ≤ cond t 1 (cond (nat_lt b 224) 2 (cond (nat_lt b 240) 3 4))
    first true = omega arith
    first false = second (nat_lt b 224)

inner_short : (used b : ℕ) (rest : List ℕ) → (b == 10) ≡ false → (b == 13) ≡ false → are_short used (b ∷ rest) ≡ (nat_lt used MOST_OCTETS && are_short (used + 1) rest)
inner_short used b rest feed return =
    ap (λ t. cond t (are_short 0 rest) (cond (b == 13) (are_short used rest) (nat_lt used MOST_OCTETS && are_short (used + 1) rest))) feed
    ∙ ap (λ t. cond t (are_short used rest) (nat_lt used MOST_OCTETS && are_short (used + 1) rest)) return

pub within : (used b : ℕ) → used ≤ MOST_OCTETS → used_with used b ≤ MOST_OCTETS
within used b le = by (is_past used b) refl
  where
    by : (t : Bool) → is_past used b ≡ t → cond t 2 (used + 1) ≤ MOST_OCTETS
    by true e = omega arith
    by false e =
        let some = some_octets b in
        let room : used + char_octets b ≤ MOST_OCTETS = grind (arith, nat_tests, e) in
        omega (arith, some, room)

octet_short : (used b : ℕ) (rest : List ℕ) → (b == 10) ≡ false → (b == 13) ≡ false → are_short used (octet_text used b ++ rest) ≡ are_short (used_with used b) rest
octet_short used b rest feed return = by (is_past used b) refl
  where
    by : (t : Bool) → is_past used b ≡ t → are_short used (cond t (13 ∷ 10 ∷ 32 ∷ b ∷ []) (b ∷ []) ++ rest) ≡ are_short (cond t 2 (used + 1)) rest
    by true e = inner_short 1 b rest feed return
    by false e =
        let some = some_octets b in
        let room : used + char_octets b ≤ MOST_OCTETS = grind (arith, nat_tests, e) in
        let low : used < MOST_OCTETS = omega (arith, some, room) in
        let test : nat_lt used MOST_OCTETS ≡ true = grind (arith, nat_tests, low) in
        inner_short used b rest feed return ∙ ap (λ t. t && are_short (used + 1) rest) test

octets_short : (used : ℕ) (line rest : List ℕ) → are_inner line ≡ true → are_short used (folded_behind used line ++ 13 ∷ 10 ∷ rest) ≡ are_short 0 rest
octets_short used [] rest e = refl
octets_short used (b ∷ bs) rest e =
    let own = and_parts (is_inner b) (are_inner bs) e in
    let first = and_parts (not (b == 13)) (not (b == 10)) own.0 in
    ap (are_short used) (append_assoc (octet_text used b) (folded_behind (used_with used b) bs) (13 ∷ 10 ∷ rest))
    ∙ octet_short used b (folded_behind (used_with used b) bs ++ 13 ∷ 10 ∷ rest) (not_true (b == 10) first.1) (not_true (b == 13) first.0)
    ∙ octets_short (used_with used b) bs rest own.1

pub lines_short : (lines : List (List ℕ)) → are_content lines ≡ true → are_short 0 (written lines) ≡ true
lines_short [] e = refl
lines_short (line ∷ lines) e =
    let own = and_parts (is_content line) (are_content lines) e in
    let first = and_parts (not (begins_blank line)) (are_inner line) own.0 in
    ap (are_short 0) (append_assoc (folded_behind 0 line) (13 ∷ 10 ∷ []) (written lines))
    ∙ octets_short 0 line (written lines) first.1
    ∙ lines_short lines own.1
