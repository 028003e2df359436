-- The text of a section is told apart from the name in front of it.
use Rattle.std.proofs.Common.{◌≡◌, ◌∙◌, ℕ, zero, suc, List, [], ◌∷◌, ◌++◌, take, refl, sym, ap, subst, append-nil, ◌⊎◌, inl, inr, arith}
use Rattle.std.specs.List.{flat_map}
use Rattle.org_ids.specs.Names.{NamedBy, part, spelled}
use Rattle.org_ids.proofs.NameLemmas.{IsById, IsByTitles, IsName}
use Rattle.org_ids.proofs.PlainLemmas.{ArePlain, NoFeed}

-- behind a line feed stands a star or a colon, if anything
abbrev IsPart : ℕ → Type 0
IsPart sign = (sign ≡ 42) ⊎ (sign ≡ 58)

abbrev pub Signed : List ℕ → Type 0
Signed [] = Unit {0}
Signed (b ∷ []) = Unit {0}
Signed (b ∷ c ∷ bytes) = (b ≡ 10 → IsPart c) × Signed (c ∷ bytes)

-- what goes on with nothing or with a part
abbrev GoesOn : List ℕ → Type 0
GoesOn [] = Unit {0}
GoesOn (b ∷ bytes) = (b ≡ 10) × Signed (b ∷ bytes)

signed_front : (f r : List ℕ) → NoFeed f → GoesOn r → Signed (f ++ r)
signed_front [] [] plain on = _
signed_front [] (b ∷ r) plain on = on.1
signed_front (b ∷ []) [] plain on = _
signed_front (b ∷ []) (c ∷ r) plain on = ((λ feed. absurd (plain.0 feed)), on.1)
signed_front (b ∷ c ∷ f) r plain on = ((λ feed. absurd (plain.0 feed)), signed_front (c ∷ f) r plain.1 on)

signed_part : (sign : ℕ) (bytes r : List ℕ) → IsPart sign → NoFeed bytes → GoesOn r → Signed (10 ∷ sign ∷ (bytes ++ r))
signed_part sign [] [] is plain on = ((λ _. is), _)
signed_part sign [] (b ∷ r) is plain on = ((λ _. is), ((λ feed. inner sign is feed), on.1))
  where
    inner : (s : ℕ) → IsPart s → s ≡ 10 → IsPart b
    inner s (inl e) feed = absurd (omega (arith, e, feed))
    inner s (inr e) feed = absurd (omega (arith, e, feed))
signed_part sign (c ∷ bytes) r is plain on = ((λ _. is), ((λ feed. inner sign is feed), signed_front (c ∷ bytes) r plain on))
  where
    inner : (s : ℕ) → IsPart s → s ≡ 10 → IsPart c
    inner s (inl e) feed = absurd (omega (arith, e, feed))
    inner s (inr e) feed = absurd (omega (arith, e, feed))

titles_go : (ts : List (List ℕ)) → ArePlain ts → GoesOn (flat_map (part 42) ts)
titles_go [] plain = _
titles_go (t ∷ ts) plain = (refl, signed_part 42 t (flat_map (part 42) ts) (inl refl) plain.0 (titles_go ts plain.1))

titles_signed : (n : NamedBy) → IsByTitles n → Signed (spelled n)
titles_signed n a = subst Signed (sym (ap spelled a.is)) (signed_front a.file (flat_map (part 42) a.titles) a.plain_file (titles_go a.titles a.plain_titles))

id_signed : (n : NamedBy) → IsById n → Signed (spelled n)
id_signed n a = subst Signed (ap (λ (x : List ℕ). 10 ∷ 58 ∷ x) (append-nil (a.byte ∷ a.id)) ∙ sym (ap spelled a.is)) (signed_part 58 (a.byte ∷ a.id) [] (inr refl) a.plain _)

spelled_signed : (n : NamedBy) → IsName n → Signed (spelled n)
spelled_signed n (inl a) = titles_signed n a
spelled_signed n (inr a) = id_signed n a

take_signed : (n : ℕ) (bytes : List ℕ) → Signed bytes → Signed (take n bytes)
take_signed zero bytes s = _
take_signed (suc n) [] s = _
take_signed (suc n) (b ∷ []) s = one n
  where
    one : (n : ℕ) → Signed (b ∷ take n [])
    one zero = _
    one (suc n) = _
take_signed (suc zero) (b ∷ c ∷ bytes) s = _
take_signed (suc (suc n)) (b ∷ c ∷ bytes) s = (s.0, take_signed (suc n) (c ∷ bytes) s.1)

pub name_signed : (n : NamedBy) → IsName n → Signed (take 512 (spelled n))
name_signed n is = take_signed 512 (spelled n) (spelled_signed n is)

-- the signs in front of texts
abbrev pub IsSign : ℕ → Type 0
IsSign sign = (sign ≡ 61) ⊎ (sign ≡ 43)

no_part : (s : ℕ) → IsSign s → IsPart s → ⊥
no_part s (inl a) (inl b) = omega (arith, a, b)
no_part s (inl a) (inr b) = omega (arith, a, b)
no_part s (inr a) (inl b) = omega (arith, a, b)
no_part s (inr a) (inr b) = omega (arith, a, b)

no_feed : (s : ℕ) → IsSign s → s ≡ 10 → ⊥
no_feed s (inl a) e = omega (arith, a, e)
no_feed s (inr a) e = omega (arith, a, e)

-- a text behind one name is no part of another
pub no_text : (s : ℕ) (x k m : List ℕ) → IsSign s → Signed m → k ++ part s x ≡ m → ⊥
no_text s x [] [] is signed e = absurd cc
no_text s x [] (b ∷ []) is signed e = absurd cc
no_text s x [] (b ∷ c ∷ m) is signed e =
    let feed : b ≡ 10 = cc in
    let sign : c ≡ s = cc in
    absurd (no_part s is (subst IsPart sign (signed.0 feed)))
no_text s x (b ∷ k) [] is signed e = absurd cc
no_text s x (b ∷ k) (c ∷ []) is signed e =
    let rest : k ++ part s x ≡ [] = cc in
    no_text s x k [] is _ rest
no_text s x (b ∷ k) (c ∷ d ∷ m) is signed e =
    let rest : k ++ part s x ≡ d ∷ m = cc in
    no_text s x k (d ∷ m) is signed.1 rest

-- names with texts behind them
pub record AreSame (s t : ℕ) (x y k m : List ℕ) : Type 0 where
  pub names : k ≡ m
  pub signs : s ≡ t
  pub texts : x ≡ y

-- the sign of one text would stand within the other's name
within : (s t : ℕ) (x y m : List ℕ) (b : ℕ) → IsSign s → Signed (b ∷ m) → part s x ≡ b ∷ (m ++ part t y) → ⊥
within s t x y [] b is signed e =
    let sign : s ≡ 10 = cc in
    no_feed s is sign
within s t x y (c ∷ m) b is signed e =
    let feed : b ≡ 10 = cc in
    let sign : c ≡ s = cc in
    no_part s is (subst IsPart sign (signed.0 feed))

behind : (c : ℕ) (m : List ℕ) → Signed (c ∷ m) → Signed m
behind c [] signed = _
behind c (d ∷ m) signed = signed.1

pub texts_tell : (s t : ℕ) (x y k m : List ℕ) → IsSign s → IsSign t → Signed k → Signed m → k ++ part s x ≡ m ++ part t y → AreSame s t x y k m
texts_tell s t x y [] [] is it sk sm e = record { names = refl; signs = cc; texts = cc }
texts_tell s t x y [] (b ∷ m) is it sk sm e = absurd (within s t x y m b is sm e)
texts_tell s t x y (b ∷ k) [] is it sk sm e = absurd (within t s y x k b it sk (sym e))
texts_tell s t x y (b ∷ k) (c ∷ m) is it sk sm e =
    let heads : b ≡ c = cc in
    let tails : k ++ part s x ≡ m ++ part t y = cc in
    let more = texts_tell s t x y k m is it (behind b k sk) (behind c m sm) tails in
    record { names = (λ i. heads i ∷ more.names i); signs = more.signs; texts = more.texts }
