-- The way to a heading, as far as its name is kept.
use Rattle.std.proofs.Common.{◌≡◌, ◌∙◌, ℕ, zero, suc, Bool, true, false, cond, List, [], ◌∷◌, ◌++◌, length, take, refl, sym, ap, append_assoc, append-nil}
use Rattle.std.specs.Prelude.{nat_lt}
use Rattle.std.specs.List.{flat_map}
use Rattle.std.proofs.lemmas.List.{map-append}
use Rattle.std.proofs.lemmas.Grind.{flat_map-append}
use Rattle.org_ids.specs.Names.{OnWay, bounded, ends_from, left_end, lower, lower_count, one_line, part, way_name, words_of}
use Rattle.org_ids.specs.declared.names.Above.{Above}

abbrev pub way_bytes : List ℕ → List OnWay → List ℕ
way_bytes file way = way_name (one_line file) (words_of way)

-- as many are left
length_step : (it : OnWay) (rest : List OnWay) (n : ℕ) (t : Bool) → n ≡ length rest → cond t (suc n) 0 ≡ length (cond t (it ∷ rest) [])
length_step it rest n true e = ap suc e
length_step it rest n false e = refl

pub lower_length : (file : List ℕ) (front way : List OnWay) (level : ℕ) → lower_count level (ends_from file front way) ≡ length (lower level way)
lower_length file front [] level = refl
lower_length file front (it ∷ way) level =
    length_step it (lower level way) (lower_count level (ends_from file (front ++ it ∷ []) way)) (nat_lt it.level level) (lower_length file (front ++ it ∷ []) way level)

-- and these
ends_step : (file : List ℕ) (front way rest : List OnWay) (it : OnWay) (t : Bool) → take (length rest) (ends_from file (front ++ it ∷ []) way) ≡ ends_from file (front ++ it ∷ []) rest →
    take (length (cond t (it ∷ rest) [])) (ends_from file front (it ∷ way)) ≡ ends_from file front (cond t (it ∷ rest) [])
ends_step file front way rest it true e = ap (λ (es : List Above). record { level = it.level; end = length (bounded (way_bytes file (front ++ it ∷ []))) } ∷ es) e
ends_step file front way rest it false e = refl

pub lower_ends : (file : List ℕ) (front way : List OnWay) (level : ℕ) → take (length (lower level way)) (ends_from file front way) ≡ ends_from file front (lower level way)
lower_ends file front [] level = refl
lower_ends file front (it ∷ way) level = ends_step file front way (lower level way) it (nat_lt it.level level) (lower_ends file (front ++ it ∷ []) way level)

-- there the name ends
end_step : (file : List ℕ) (front rest : List OnWay) (it : OnWay) (n : ℕ) (t : Bool) → n ≡ length (bounded (way_bytes file ((front ++ it ∷ []) ++ rest))) →
    cond t n (length (bounded (way_bytes file front))) ≡ length (bounded (way_bytes file (front ++ cond t (it ∷ rest) [])))
end_step file front rest it n true e = e ∙ ap (λ (x : List OnWay). length (bounded (way_bytes file x))) (append_assoc front (it ∷ []) rest)
end_step file front rest it n false e = ap (λ (x : List OnWay). length (bounded (way_bytes file x))) (sym (append-nil front))

pub left_length : (file : List ℕ) (front way : List OnWay) (level : ℕ) →
    left_end level (length (bounded (way_bytes file front))) (ends_from file front way) ≡ length (bounded (way_bytes file (front ++ lower level way)))
left_length file front [] level = ap (λ (x : List OnWay). length (bounded (way_bytes file x))) (sym (append-nil front))
left_length file front (it ∷ way) level =
    end_step file front (lower level way) it (left_end level (length (bounded (way_bytes file (front ++ it ∷ [])))) (ends_from file (front ++ it ∷ []) way)) (nat_lt it.level level)
    (left_length file (front ++ it ∷ []) way level)

-- what is left is a front
rest_of : ℕ → List OnWay → List OnWay
rest_of level [] = []
rest_of level (it ∷ way) = cond (nat_lt it.level level) (rest_of level way) (it ∷ way)

front_step : (it : OnWay) (way left rest : List OnWay) (t : Bool) → way ≡ left ++ rest → it ∷ way ≡ cond t (it ∷ left) [] ++ cond t rest (it ∷ way)
front_step it way left rest true e = ap (λ (x : List OnWay). it ∷ x) e
front_step it way left rest false e = refl

front_of : (level : ℕ) (way : List OnWay) → way ≡ lower level way ++ rest_of level way
unfolding rest_of
front_of level [] = refl
front_of level (it ∷ way) = front_step it way (lower level way) (rest_of level way) (nat_lt it.level level) (front_of level way)

pub bytes_of : (file : List ℕ) (a b : List OnWay) → way_bytes file (a ++ b) ≡ way_bytes file a ++ flat_map (part 42) (words_of b)
bytes_of file a b =
    ap (λ (ts : List (List ℕ)). one_line file ++ flat_map (part 42) ts) (map-append (λ (it : OnWay). it.words) a b)
    ∙ ap (λ (x : List ℕ). one_line file ++ x) (flat_map-append (part 42) (words_of a) (words_of b))
    ∙ sym (append_assoc (one_line file) (flat_map (part 42) (words_of a)) (flat_map (part 42) (words_of b)))

-- the first bytes of a front are first among those of the whole
pub take_front : (n : ℕ) (x z : List ℕ) → take (length (take n x)) (take n (x ++ z)) ≡ take n x
take_front zero x z = refl
take_front (suc n) [] z = refl
take_front (suc n) (b ∷ x) z = ap (λ (y : List ℕ). b ∷ y) (take_front n x z)

-- and what is put behind them counts as behind the front
pub take_behind : (n : ℕ) (x z : List ℕ) → take n (take n x ++ z) ≡ take n (x ++ z)
take_behind zero x z = refl
take_behind (suc n) [] z = refl
take_behind (suc n) (b ∷ x) z = ap (λ (y : List ℕ). b ∷ y) (take_behind n x z)

-- the kept name of the way that is left
pub left_bytes : (file : List ℕ) (way : List OnWay) (level : ℕ) →
    take (length (bounded (way_bytes file (lower level way)))) (bounded (way_bytes file way)) ≡ bounded (way_bytes file (lower level way))
left_bytes file way level =
    let left : List OnWay = lower level way in
    let whole : way_bytes file way ≡ way_bytes file left ++ flat_map (part 42) (words_of (rest_of level way)) = ap (way_bytes file) (front_of level way) ∙ bytes_of file left (rest_of level way) in
    ap (λ (x : List ℕ). take (length (bounded (way_bytes file left))) (bounded x)) whole
    ∙ take_front 512 (way_bytes file left) (flat_map (part 42) (words_of (rest_of level way)))
