-- The stamps of a heading are those of its entry: as many of them are near, and none where none of the entry's is.
use Rattle.std.proofs.Common.{◌≡◌, ◌∙◌, ℕ, ◌+◌, true, false, ◌&&◌, ◌||◌, cond, List, [], ◌∷◌, inl, inr, length, map, sym, ap, ap₂, refl}
use Rattle.std.specs.Prelude.{Option, None, Some}
use Rattle.std.specs.List.{All, sum_by}
use Rattle.std.proofs.lemmas.Bool.{cases_Bool}
use Rattle.std.proofs.lemmas.List.{length-append, length-map}
use Rattle.std.proofs.lemmas.List.Elements.{All-head, All-tail}
use Rattle.std.proofs.lemmas.List.Sums.{sum_by-cons}
use Rattle.org_entry.proofs.ActiveLemmas.{all_open}
use Rattle.org_entry.specs.Active.{active_stamps, is_planned, stamps_by, stamps_under}
use Rattle.org_entry.specs.declared.active.EntryStamp.{EntryStamp}
use Rattle.org_entry.specs.declared.entry.Entry.{Entry}
use Rattle.org_head.specs.declared.head.Head.{Head}
use Rattle.org_index.specs.Reaches.{reach_of}
use Rattle.org_index.specs.Near.{touches, warns}
use Rattle.org_inherit.specs.Hidden.{is_hidden}
use Rattle.org_inherit.specs.Scope.{Scope}
use Rattle.org_agenda.specs.Bound.{kept_at, kept_from}
use Rattle.org_agenda.specs.Sources.{entry_sources, owner_of, under}
use Rattle.org_agenda.proofs.SourcesWords.{head_sources, sources_at}
use Rattle.org_agenda.specs.declared.source.HeadingRef.{HeadingRef}
use Rattle.org_agenda.proofs.ListLemmas.{filter_append}
use Rattle.org_stamp_index.specs.NearQuery.{asked_of as stamps_asked, is_asked as stamp_asked}
use Rattle.org_stamp_index.specs.Near.{near_of_entry}
use Rattle.org_stamp_index.specs.declared.near_query.NearQuery.{NearQuery}
use Rattle.org_near.specs.Near.{asked_of, is_asked}

module _ (a : NearQuery) where
  near_alike : (o : HeadingRef) (s : EntryStamp) → s.is_open ≡ o.is_open → is_asked a (under o s) ≡ stamp_asked a s
  near_alike o s same = ap (λ b. touches a.from a.to (reach_of a.profile s.stamp) || ((is_planned s.role && b) && warns a.from a.to a.today (reach_of a.profile s.stamp))) (sym same)

  filter_under : (o : HeadingRef) (ss : List EntryStamp) → All (λ s. s.is_open ≡ o.is_open) ss → asked_of a (map (under o) ss) ≡ map (under o) (stamps_asked a ss)
  filter_under o [] all = refl
  filter_under o (s ∷ ss) all =
      let one = All-head (λ (t : EntryStamp). t.is_open ≡ o.is_open) s ss all in
      let more = filter_under o ss (All-tail (λ (t : EntryStamp). t.is_open ≡ o.is_open) s ss all) in
      elim (cases_Bool (stamp_asked a s)) [
        | inl near ↦ let also : is_asked a (under o s) ≡ true = near_alike o s one ∙ near in rw (near, also) (ap (λ ts. under o s ∷ ts) more)
        | inr far ↦ let also : is_asked a (under o s) ≡ false = near_alike o s one ∙ far in rw (far, also) more
      ]

  -- those that are near are the same
  near_under : (o : HeadingRef) (e : Entry) → asked_of a (entry_sources o e) ≡ map (under o) (stamps_asked a (stamps_under o.is_open e))
  near_under o e = filter_under o (stamps_under o.is_open e) (all_open o.is_open e)

  kept_one : (scope : Scope) (file i : ℕ) (e : Entry) (head : Option Head) → length (asked_of a (kept_at scope file i e head)) ≡ length (stamps_asked a (stamps_by scope.settings e head))
  kept_one scope file i e None = refl
  kept_one scope file i e (Some head) =
      let o = owner_of scope file i e head in
      ap length (near_under o e) ∙ length-map (stamps_asked a (stamps_under o.is_open e)) (under o)

  -- as many stamps of headings are near as of entries
  pub kept_counted : (scope : Scope) (file i : ℕ) (es : List Entry) → length (asked_of a (kept_from scope file i es)) ≡ sum_by (near_of_entry a scope.settings) es
  kept_counted scope file i [] = refl
  kept_counted scope file i (e ∷ es) =
      ap length (filter_append (is_asked a) (kept_at scope file i e e.head) (kept_from scope file (i + 1) es))
      ∙ length-append (asked_of a (kept_at scope file i e e.head)) (asked_of a (kept_from scope file (i + 1) es))
      ∙ ap₂ (λ m n. m + n) (kept_one scope file i e e.head) (kept_counted scope file (i + 1) es)
      ∙ sym (sum_by-cons (near_of_entry a scope.settings) e es)

  none_head : (scope : Scope) (file i : ℕ) (e : Entry) (head : Option Head) → stamps_asked a (stamps_by scope.settings e head) ≡ [] → asked_of a (head_sources scope file i e head) ≡ []
  none_head scope file i e None none = refl
  none_head scope file i e (Some head) none =
      let o = owner_of scope file i e head in
      let gone : asked_of a (entry_sources o e) ≡ [] = near_under o e ∙ ap (map (under o)) none in
      elim (is_hidden scope.entries i) as (λ b. asked_of a (cond b [] (entry_sources o e)) ≡ []) [ true ↦ refl | false ↦ gone ]

  -- an entry without any has none at its place
  pub none_there : (scope : Scope) (file i : ℕ) (e : Entry) → stamps_asked a (active_stamps scope.settings e) ≡ [] → asked_of a (sources_at scope file i e) ≡ []
  none_there scope file i e none = none_head scope file i e e.head none
