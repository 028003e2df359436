-- One more heading behind others: the way to it, and its name.
use Rattle.std.proofs.Common.{◌≡◌, ◌∙◌, ℕ, List, [], ◌∷◌, ◌++◌, length, map, refl, sym, ap, append_assoc, append-nil}
use Rattle.std.proofs.lemmas.List.{map-append}
use Rattle.org_ids.specs.Names.{IdHeading, NamedBy, OnWay, bounded, ends_from, enter, id_line, kept_name, named_by, named_from, named_too, names_of, names_view, own_name, part, way_behind, way_view}
use Rattle.org_ids.specs.declared.names.Above.{Above}
use Rattle.org_ids.proofs.WayLemmas.{bytes_of, take_behind, way_bytes}

-- the words of a title behind the kept bytes of a way are kept as behind all of them
pub way_pushed : (file : List ℕ) (way : List OnWay) (it : OnWay) →
    bounded (bounded (bounded (way_bytes file way) ++ 10 ∷ 42 ∷ []) ++ it.words) ≡ bounded (way_bytes file (way ++ it ∷ []))
way_pushed file way it =
    take_behind 512 (bounded (way_bytes file way) ++ 10 ∷ 42 ∷ []) it.words
    ∙ ap bounded (append_assoc (bounded (way_bytes file way)) (10 ∷ 42 ∷ []) it.words)
    ∙ take_behind 512 (way_bytes file way) (part 42 it.words)
    ∙ ap (λ (x : List ℕ). bounded (way_bytes file way ++ x)) (sym (append-nil (part 42 it.words)))
    ∙ ap bounded (sym (bytes_of file way (it ∷ [])))

-- where the title of the last heading on a way ends
abbrev pub end_of : List ℕ → List OnWay → OnWay → Above
end_of file way it = record { level = it.level; end = length (bounded (way_bytes file (way ++ it ∷ []))) }

pub ends_pushed : (file : List ℕ) (front way : List OnWay) (it : OnWay) →
    ends_from file front (way ++ it ∷ []) ≡ ends_from file front way ++ end_of file (front ++ way) it ∷ []
ends_pushed file front [] it = ap (λ (x : List OnWay). end_of file x it ∷ []) (sym (append-nil front))
ends_pushed file front (first ∷ way) it =
    ap (λ (es : List Above). end_of file front first ∷ es)
    (ends_pushed file (front ++ first ∷ []) way it ∙ ap (λ (x : List OnWay). ends_from file (front ++ first ∷ []) way ++ end_of file x it ∷ []) (append_assoc front (first ∷ []) way))

named_pushed : (file : List ℕ) (way : List OnWay) (hs : List IdHeading) (h : IdHeading) →
    named_from file way (hs ++ h ∷ []) ≡ named_from file way hs ++ named_by file (enter (way_behind way hs) h) (id_line h.id) ∷ []
named_pushed file way [] h = refl
named_pushed file way (first ∷ hs) h = ap (λ (ns : List NamedBy). named_by file (enter way first) (id_line first.id) ∷ ns) (named_pushed file (enter way first) hs h)

way_entered : (way : List OnWay) (hs : List IdHeading) (h : IdHeading) → way_behind way (hs ++ h ∷ []) ≡ enter (way_behind way hs) h
way_entered way [] h = refl
way_entered way (first ∷ hs) h = way_entered (enter way first) hs h

names_pushed : (file : List ℕ) (hs : List IdHeading) (h : IdHeading) →
    names_of file (hs ++ h ∷ []) ≡ names_of file hs ++ kept_name (named_by file (enter (way_behind [] hs) h) (id_line h.id)) ∷ []
names_pushed file hs h =
    ap (map kept_name) (named_pushed file [] hs h)
    ∙ map-append kept_name (named_from file [] hs) (named_by file (enter (way_behind [] hs) h) (id_line h.id) ∷ [])

pub own_is : (file : List ℕ) (way : List OnWay) (id : List ℕ) → own_name (bounded (way_bytes file way)) id ≡ kept_name (named_by file way id)
own_is file way [] = refl
own_is file way (byte ∷ id) = refl

-- the names with one more
pub view_pushed : (file : List ℕ) (hs : List IdHeading) (h : IdHeading) →
    named_too (way_view file (enter (way_behind [] hs) h) (names_of file hs)) (own_name (bounded (way_bytes file (enter (way_behind [] hs) h))) (id_line h.id)) ≡ names_view file (hs ++ h ∷ [])
view_pushed file hs h =
    let way : List OnWay = enter (way_behind [] hs) h in
    ap (λ (name : List ℕ). way_view file way (names_of file hs ++ name ∷ [])) (own_is file way (id_line h.id))
    ∙ ap (way_view file way) (sym (names_pushed file hs h))
    ∙ ap (λ (x : List OnWay). way_view file x (names_of file (hs ++ h ∷ []))) (sym (way_entered [] hs h))
