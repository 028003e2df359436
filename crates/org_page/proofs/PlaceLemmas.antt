-- Rows put in their places, the last one first.
use Rattle.std.proofs.Common.{◌≡◌, ◌∙◌, ◌++◌, inl, inr, ℕ, suc, ◌-◌, take, List, [], ◌∷◌, true, false, ap, ap₂, refl, sym, append_assoc, append-nil}
use Rattle.std.specs.Prelude.{reverse}
use Rattle.std.proofs.lemmas.List.{reverse-append}
use Rattle.org_page.specs.Places.{AreDealtUp, IsInBox, IsPut, boxes_rows}
use Rattle.org_page.specs.declared.day.Boxed.{Boxed}
use Rattle.org_page.specs.declared.row.Row.{Row}

-- the rows that are left stand in front of those that are placed
pub record ArePlaced (all left : List Row) (boxes : List Boxed) (beside : List Row) : Type 0 where
  pub done : List Row
  pub whole : all ≡ left ++ done
  pub dealt : AreDealtUp done boxes beside

pub none_placed : (all : List Row) (boxes : List Boxed) (beside : List Row) → boxes ≡ [] → beside ≡ [] → ArePlaced all all boxes beside
none_placed all boxes beside a b = record {
  done = [];
  whole = sym (append-nil all);
  dealt = record { picks = []; count = refl; first = ap (λ (bs : List Boxed). boxes_rows (reverse bs)) a; second = ap (λ (rs : List Row). reverse rs) b };
}

-- nothing is left where nothing was taken
pub none_left : (before after : List Row) (n : ℕ) → n ≡ 0 → after ≡ take (n - 1) before → before ≡ after ++ [] → before ≡ []
none_left before after n zero rest items = items ∙ append-nil after ∙ rest ∙ ap (λ (k : ℕ). take (k - 1) before) zero

-- one more in front
more_boxed : (row : Row) (done : List Row) (old new : List Boxed) (beside : List Row) → AreDealtUp done old beside → IsInBox row old new → AreDealtUp (row ∷ done) new beside
more_boxed row done old new beside dealt (boxed, is, grown) = record {
  picks = true ∷ dealt.picks;
  count = ap suc dealt.count;
  first = ap (λ bs. boxes_rows (reverse bs)) grown ∙ ap boxes_rows (reverse-append old (boxed ∷ [])) ∙ ap₂ (λ (r : Row) (rs : List Row). r ∷ rs) is dealt.first;
  second = dealt.second;
}

more_beside : (row : Row) (done : List Row) (boxes : List Boxed) (old new : List Row) → AreDealtUp done boxes old → new ≡ old ++ row ∷ [] → AreDealtUp (row ∷ done) boxes new
more_beside row done boxes old new dealt grown = record {
  picks = false ∷ dealt.picks;
  count = ap suc dealt.count;
  first = dealt.first;
  second = ap reverse grown ∙ reverse-append old (row ∷ []) ∙ ap (λ (rs : List Row). row ∷ rs) dealt.second;
}

more_put : (row : Row) (done : List Row) (old_boxes new_boxes : List Boxed) (old_beside new_beside : List Row) →
    AreDealtUp done old_boxes old_beside → IsPut row old_boxes new_boxes old_beside new_beside → AreDealtUp (row ∷ done) new_boxes new_beside
more_put row done old_boxes new_boxes old_beside new_beside dealt (inl (boxed, same)) =
    more_boxed row done old_boxes new_boxes new_beside (rw same dealt) boxed
more_put row done old_boxes new_boxes old_beside new_beside dealt (inr (same, grown)) =
    more_beside row done new_boxes old_beside new_beside (rw same dealt) grown

pub one_placed : (all before after : List Row) (row : Row) (old_boxes new_boxes : List Boxed) (old_beside new_beside : List Row) →
    before ≡ after ++ row ∷ [] → ArePlaced all before old_boxes old_beside → IsPut row old_boxes new_boxes old_beside new_beside →
    ArePlaced all after new_boxes new_beside
one_placed all before after row old_boxes new_boxes old_beside new_beside popped placed put = record {
  done = row ∷ placed.done;
  whole = placed.whole ∙ ap (λ (rs : List Row). rs ++ placed.done) popped ∙ append_assoc after (row ∷ []) placed.done;
  dealt = more_put row placed.done old_boxes new_boxes old_beside new_beside placed.dealt put;
}

pub all_placed : (all left : List Row) (boxes : List Boxed) (beside : List Row) → left ≡ [] → ArePlaced all left boxes beside → AreDealtUp all boxes beside
all_placed all left boxes beside none placed =
    let whole : all ≡ placed.done = placed.whole ∙ ap (λ (rs : List Row). rs ++ placed.done) none in
    rw whole placed.dealt
