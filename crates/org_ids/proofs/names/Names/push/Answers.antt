-- The way goes on to the heading, and its name is put.
use Rattle.std.proofs.Common.{◌≡◌, ◌∙◌, ℕ, List, [], ◌∷◌, ◌++◌, sym, ap}
use Rattle.std.specs.Prelude.{Option, None, Some, option_copied}
use Rattle.std.proofs.lemmas.Result.{on_ok_weaker}
use Rattle.org_ids.specs.Names.{IdHeading, NamesView, enter, heading_of, id_line, named_too, names_of, names_view, own_name, way_behind, way_view}
use Rattle.org_ids.proofs.PushLemmas.{view_pushed}
use Rattle.org_ids.proofs.names.Names.push.Goals as goal

-- the names with that of a heading, where the way has gone on to it
put_own : (file : List ℕ) (hs : List IdHeading) (h : IdHeading) (view : NamesView) → view ≡ way_view file (enter (way_behind [] hs) h) (names_of file hs) →
    named_too view (own_name view.way (id_line h.id)) ≡ names_view file (hs ++ h ∷ [])
put_own file hs h view e = ap (λ (v : NamesView). named_too v (own_name v.way (id_line h.id))) e ∙ view_pushed file hs h

pub returns-in-Some : goal.returns-in-Some
returns-in-Some c = record {
  ok = λ file hs e.
      let entered = c.in_ok-enter.ensures.ok file (way_behind [] hs) (names_of file hs) e in
      let own : option_copied c.args.id ≡ Some c.in-Some.id.now = ap option_copied c.in-Some.is in
      on_ok_weaker c.push_by_id.result
      (λ new.
      new
      ∙ put_own file hs (heading_of c.args.level c.args.title.now (Some c.in-Some.id.now)) c.enter.new.self entered
      ∙ ap (λ (o : Option (List ℕ)). names_view file (hs ++ heading_of c.args.level c.args.title.now o ∷ [])) (sym own))
      c.push_by_id.ensures.ok;
}

pub returns-in-None : goal.returns-in-None
returns-in-None c = record {
  ok = λ file hs e.
      let entered = c.in_ok-enter.ensures.ok file (way_behind [] hs) (names_of file hs) e in
      let none : option_copied c.args.id ≡ None = ap option_copied c.in-None.is in
      let inside : NamesView = record { base = c.self.inside.base; way = c.self.inside.way.items; above = c.self.inside.above.items; names = c.self.inside.names } in
      on_ok_weaker c.push.result
      (λ new.
      ap (λ (names : List (List ℕ)). record inside { names = names }) (new ∙ ap (λ (name : List ℕ). inside.names ++ name ∷ []) c.as_slice.ensures.value)
      ∙ put_own file hs (heading_of c.args.level c.args.title.now None) inside (c.self.view_is ∙ entered)
      ∙ ap (λ (o : Option (List ℕ)). names_view file (hs ++ heading_of c.args.level c.args.title.now o ∷ [])) (sym none))
      c.push.ensures.ok;
}
