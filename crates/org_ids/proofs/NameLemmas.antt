-- Names of headings are told apart by how they are spelled.
use Rattle.std.proofs.Common.{◌≡◌, ◌∙◌, ℕ, List, [], ◌∷◌, ◌++◌, refl, sym, ap, ◌⊎◌, inl, inr, get_or, zero, suc, arith}
use Rattle.std.specs.Prelude.{Option, None, Some}
use Rattle.std.specs.List.{AllByRecursion, flat_map}
use Rattle.org_ids.specs.Laws.{Placed, name_of, nobody}
use Rattle.org_ids.specs.Names.{IdHeading, NamedBy, OnWay, enter, id_line, named_by, named_from, named_in, one_line, part, spelled, way_name, words_of}
use Rattle.org_ids.proofs.PlainLemmas.{ArePlain, NoFeed, line_plain, plain_way}

-- by titles or by an ID, without line feeds
abbrev pub by_titles : List ℕ → List (List ℕ) → NamedBy
by_titles file titles = record { id = []; file = file; titles = titles }

abbrev pub by_id : ℕ → List ℕ → NamedBy
by_id byte id = record { id = byte ∷ id; file = []; titles = [] }

pub record IsByTitles (n : NamedBy) : Type 0 where
  pub file : List ℕ
  pub titles : List (List ℕ)
  pub plain_file : NoFeed file
  pub plain_titles : ArePlain titles
  pub is : n ≡ by_titles file titles

pub record IsById (n : NamedBy) : Type 0 where
  pub byte : ℕ
  pub id : List ℕ
  pub plain : NoFeed (byte ∷ id)
  pub is : n ≡ by_id byte id

abbrev pub IsName : NamedBy → Type 0
IsName n = IsByTitles n ⊎ IsById n

id_plain : (id : Option (List ℕ)) → NoFeed (id_line id)
id_plain None = _
id_plain (Some id) = line_plain id

is_name : (file : List ℕ) (way : List OnWay) (id : List ℕ) → ArePlain (words_of way) → NoFeed id → IsName (named_by file way id)
is_name file way [] plain own = inl (record { file = one_line file; titles = words_of way; plain_file = line_plain file; plain_titles = plain; is = refl })
is_name file way (byte ∷ id) plain own = inr (record { byte = byte; id = id; plain = own; is = refl })

are_names : (file : List ℕ) (way : List OnWay) (hs : List IdHeading) → ArePlain (words_of way) → AllByRecursion IsName (named_from file way hs)
are_names file way [] plain = _
are_names file way (h ∷ hs) plain =
    (is_name file (enter way h) (id_line h.id) (plain_way way h plain) (id_plain h.id), are_names file (enter way h) hs (plain_way way h plain))

at_place : (ns : List NamedBy) (place : ℕ) → AllByRecursion IsName ns → IsName (get_or ns place nobody)
at_place [] place all = inl (record { file = []; titles = []; plain_file = _; plain_titles = _; is = refl })
at_place (n ∷ ns) zero all = all.0
at_place (n ∷ ns) (suc place) all = at_place ns place all.1

pub has_name : (it : Placed) → IsName (name_of it)
has_name it = at_place (named_in it.file it.headings) it.place (are_names it.file [] it.headings _)

-- what begins with a line feed, if with anything
abbrev BeginsFed : List ℕ → Type 0
BeginsFed [] = Unit {0}
BeginsFed (b ∷ bytes) = b ≡ 10

split : (f g r s : List ℕ) → NoFeed f → NoFeed g → BeginsFed r → BeginsFed s → f ++ r ≡ g ++ s → (f ≡ g) × (r ≡ s)
split [] [] r s pf pg fr fs e = (refl, e)
split [] (c ∷ g) [] s pf pg fr fs e = absurd cc
split [] (c ∷ g) (b ∷ r) s pf pg fr fs e =
    let same : b ≡ c = cc in
    absurd (pg.0 (sym same ∙ fr))
split (b ∷ f) [] r [] pf pg fr fs e = absurd cc
split (b ∷ f) [] r (c ∷ s) pf pg fr fs e =
    let same : c ≡ b = cc in
    absurd (pf.0 (sym same ∙ fs))
split (b ∷ f) (c ∷ g) r s pf pg fr fs e =
    let heads : b ≡ c = cc in
    let tails : f ++ r ≡ g ++ s = cc in
    let both = split f g r s pf.1 pg.1 fr fs tails in
    ((λ i. heads i ∷ both.0 i), both.1)

fed : (ts : List (List ℕ)) → BeginsFed (flat_map (part 42) ts)
fed [] = _
fed (t ∷ ts) = refl

titles_are : (ts us : List (List ℕ)) → ArePlain ts → ArePlain us → flat_map (part 42) ts ≡ flat_map (part 42) us → ts ≡ us
titles_are [] [] pt pu e = refl
titles_are [] (u ∷ us) pt pu e = absurd cc
titles_are (t ∷ ts) [] pt pu e = absurd cc
titles_are (t ∷ ts) (u ∷ us) pt pu e =
    let inner : t ++ flat_map (part 42) ts ≡ u ++ flat_map (part 42) us = cc in
    let both = split t u (flat_map (part 42) ts) (flat_map (part 42) us) pt.0 pu.0 (fed ts) (fed us) inner in
    let rest : ts ≡ us = titles_are ts us pt.1 pu.1 both.1 in
    λ i. both.0 i ∷ rest i

-- no name by titles is spelled as one by an ID
apart : (file : List ℕ) (titles : List (List ℕ)) (id : List ℕ) → NoFeed file → way_name file titles ≡ part 58 id → ⊥
apart [] [] id plain e = absurd cc
apart [] (t ∷ ts) id plain e =
    let sign : ◌≡◌ {A = ℕ} 42 58 = cc in
    omega (arith, sign)
apart (b ∷ file) titles id plain e =
    let feed : b ≡ 10 = cc in
    absurd (plain.0 feed)

titles_tell : (n m : NamedBy) (a : IsByTitles n) (b : IsByTitles m) → spelled n ≡ spelled m → n ≡ m
titles_tell n m a b e =
    let same : way_name a.file a.titles ≡ way_name b.file b.titles = sym (ap spelled a.is) ∙ e ∙ ap spelled b.is in
    let both = split a.file b.file (flat_map (part 42) a.titles) (flat_map (part 42) b.titles) a.plain_file b.plain_file (fed a.titles) (fed b.titles) same in
    let titles : a.titles ≡ b.titles = titles_are a.titles b.titles a.plain_titles b.plain_titles both.1 in
    a.is ∙ (λ i. by_titles (both.0 i) (titles i)) ∙ sym b.is

ids_tell : (n m : NamedBy) (a : IsById n) (b : IsById m) → spelled n ≡ spelled m → n ≡ m
ids_tell n m a b e =
    let same : part 58 (a.byte ∷ a.id) ≡ part 58 (b.byte ∷ b.id) = sym (ap spelled a.is) ∙ e ∙ ap spelled b.is in
    let byte : a.byte ≡ b.byte = cc in
    let id : a.id ≡ b.id = cc in
    a.is ∙ (λ i. by_id (byte i) (id i)) ∙ sym b.is

pub spelled_tells : (n m : NamedBy) → IsName n → IsName m → spelled n ≡ spelled m → n ≡ m
spelled_tells n m (inl a) (inl b) e = titles_tell n m a b e
spelled_tells n m (inl a) (inr b) e =
    absurd (apart a.file a.titles (b.byte ∷ b.id) a.plain_file (sym (ap spelled a.is) ∙ e ∙ ap spelled b.is))
spelled_tells n m (inr a) (inl b) e =
    absurd (apart b.file b.titles (a.byte ∷ a.id) b.plain_file (sym (ap spelled b.is) ∙ sym e ∙ ap spelled a.is))
spelled_tells n m (inr a) (inr b) e = ids_tell n m a b e
