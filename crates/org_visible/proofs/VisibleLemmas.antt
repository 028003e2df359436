-- One byte more of a text that is shown.
use Rattle.std.proofs.Common.{◌≡◌, ◌∙◌, ℕ, ◌+◌, ◌<◌, ◌≤◌, List, [], ◌∷◌, ◌++◌, length, drop, get_or, ap, sym, append_assoc, append-nil}
use Rattle.std.specs.List.{flat_map}
use Rattle.std.proofs.lemmas.List.{drop_all, drop_more}
use Rattle.org_visible.specs.Unseen.{next}
use Rattle.org_visible.specs.Visible.{control, visible, visible_behind, written}
use Rattle.org_visible.specs.declared.front.Block.TheVariants.{Latin}
use Rattle.org_visible.specs.declared.front.Front.{Front}
use Rattle.org_visible.specs.declared.visible.Escape.{Escape}

-- what is written so far, and what the rest will be
abbrev pub WithRest : Escape → Front → List ℕ → ℕ → List ℕ → List ℕ → Type 0
WithRest escape front text at so_far old = so_far ++ visible_behind escape front (drop at text) ≡ old ++ visible escape text

pub visible_next : (escape : Escape) (front : Front) (text : List ℕ) (at byte : ℕ) (old so_far new : List ℕ) → at < length text → byte ≡ get_or text at 0 →
    WithRest escape front text at so_far old → new ≡ so_far ++ written escape front byte → WithRest escape (next front byte) text (at + 1) new old
visible_next escape front text at byte old so_far new lt is so one =
    ap (λ s. s ++ visible_behind escape (next front byte) (drop (at + 1) text)) one ∙ append_assoc so_far (written escape front byte) (visible_behind escape (next front byte) (drop (at + 1) text))
    ∙ ap (λ s. so_far ++ s) (sym (ap (visible_behind escape front) (drop_more text at 0 lt) ∙ ap (λ b. visible_behind escape front (b ∷ drop (at + 1) text)) (sym is))) ∙ so

pub visible_end : (escape : Escape) (front : Front) (text : List ℕ) (at : ℕ) (old so_far : List ℕ) → length text ≤ at → WithRest escape front text at so_far old →
    so_far ++ visible_behind escape front [] ≡ old ++ visible escape text
visible_end escape front text at old so_far past so = ap (λ s. so_far ++ visible_behind escape front s) (sym (drop_all at text past)) ∙ so

-- the same of bytes that are written by their numbers
abbrev pub CutWithRest : Escape → List ℕ → ℕ → List ℕ → List ℕ → Type 0
CutWithRest escape text at so_far old = so_far ++ flat_map (control escape Latin) (drop at text) ≡ old ++ flat_map (control escape Latin) text

pub cut_next : (escape : Escape) (text : List ℕ) (at byte : ℕ) (old so_far new : List ℕ) → at < length text → byte ≡ get_or text at 0 →
    CutWithRest escape text at so_far old → new ≡ so_far ++ control escape Latin byte → CutWithRest escape text (at + 1) new old
cut_next escape text at byte old so_far new lt is so one =
    ap (λ s. s ++ flat_map (control escape Latin) (drop (at + 1) text)) one ∙ append_assoc so_far (control escape Latin byte) (flat_map (control escape Latin) (drop (at + 1) text))
    ∙ ap (λ s. so_far ++ s) (sym (ap (flat_map (control escape Latin)) (drop_more text at 0 lt) ∙ ap (λ b. flat_map (control escape Latin) (b ∷ drop (at + 1) text)) (sym is))) ∙ so

pub cut_end : (escape : Escape) (text : List ℕ) (at : ℕ) (old so_far : List ℕ) → length text ≤ at → CutWithRest escape text at so_far old →
    so_far ≡ old ++ flat_map (control escape Latin) text
cut_end escape text at old so_far past so = sym (append-nil so_far) ∙ ap (λ s. so_far ++ flat_map (control escape Latin) s) (sym (drop_all at text past)) ∙ so
