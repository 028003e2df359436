-- That what is shown folded is what it stands for. Made by tests/reading.py: `tests/reading.py fold`.
use Rattle.org_agenda.specs.Days.{day_rows, due_day, is_shown, started}
use Rattle.org_agenda.specs.Lists.{Listing}
use Rattle.org_agenda.specs.declared.row.Row.{Row}
use Rattle.org_agenda.specs.declared.row.RowKind.{RowKind}
use Rattle.org_agenda.specs.declared.source.HeadingStamp.{HeadingStamp}
use Rattle.org_base.specs.Characters.{is_tag_char}
use Rattle.org_base.specs.FileName.{is_file_name}
use Rattle.org_base.specs.Properties.{Given, Property, with_given}
use Rattle.org_base.specs.declared.fault.Fault.{Fault}
use Rattle.org_base.specs.declared.profile.Profile.{Profile}
use Rattle.org_base.specs.declared.span.Span.{Span}
use Rattle.org_cal.specs.Texts.{date_text}
use Rattle.org_cal.specs.declared.moment.Moment.{Moment}
use Rattle.org_class.specs.Classes.{front_classes}
use Rattle.org_class.specs.Drawers.{classes_below}
use Rattle.org_class.specs.LineClass.{is_setting, line_class}
use Rattle.org_class.specs.declared.class.Class.{Class}
use Rattle.org_clocktable.specs.declared.row.Of.{Of}
use Rattle.org_drawer.specs.Clock.{minutes_in}
use Rattle.org_drawer.specs.Node.{drawer_of}
use Rattle.org_drawer.specs.Planning.{last_of}
use Rattle.org_drawer.specs.declared.clock.ClockLine.{ClockLine}
use Rattle.org_engine.specs.Places.{line_place, list_in, of_place, view_in}
use Rattle.org_engine.specs.Step.{Command as Command_of_org_engine_Step, Query, render_view, step}
use Rattle.org_engine.specs.World.{FileView, State, WorldView}
use Rattle.org_engine.specs.declared.question.Form.{Form}
use Rattle.org_entry.specs.Entry.{active_at, clocks_of, stamps_of}
use Rattle.org_entry.specs.Keyword.{is_finished}
use Rattle.org_entry.specs.declared.entry.Entry.{Entry}
use Rattle.org_inherit.specs.Category.{file_category}
use Rattle.org_inherit.specs.Scope.{Scope}
use Rattle.org_inherit.specs.Special.{priority_value}
use Rattle.org_inherit.specs.Tags.{all_tags}
use Rattle.org_layout.specs.Lines.{entry_text}
use Rattle.org_layout.specs.Shown.{columns_shown, line_text, row_text}
use Rattle.org_layout.specs.declared.shown.Line.{Line}
use Rattle.org_layout.specs.declared.shown.ShownRow.{ShownRow}
use Rattle.org_match.specs.Patterns.{found}
use Rattle.org_match.specs.Refusal.{AreReadable, IsPatternRefused}
use Rattle.org_outline.specs.Tree.{chain}
use Rattle.org_repeat.specs.Shift.{shift_answer}
use Rattle.org_repeat.specs.Shifted.{lacks_time}
use Rattle.org_settings.specs.Keywords.{Keyword, add_words, keywords}
use Rattle.org_settings.specs.SettingLines.{has_key, setting_value}
use Rattle.org_settings.specs.Settings.{FileSettings}
use Rattle.org_stamp.specs.Inner.{inner_of, is_name, times_of}
use Rattle.org_stamp.specs.Print.{single_text, stamp_text}
use Rattle.org_stamp.specs.Read.{joined}
use Rattle.org_stamp.specs.declared.pair.Pair.{Pair}
use Rattle.org_stamp.specs.declared.pair.PlanningKeyword.{PlanningKeyword}
use Rattle.org_stamp.specs.declared.stamp.Stamp.{Stamp}
use Rattle.org_store.specs.Outline.{file_settings}
use Rattle.org_wire.specs.Replies.{fault_bytes}
use Rattle.org_wire.specs.Run.{Means, out_of_memory}
use Rattle.org_wire.specs.Spelled.{IsLineOf}
use Rattle.org_wire.specs.declared.command.Command.{Command}
use Rattle.std.specs.Prelude.{Bool, List, Option, [], if◌then◌else◌, ℕ, ◌%◌, ◌&&◌, ◌*◌, ◌++◌, ◌+◌, ◌-◌, ◌/◌, ◌<◌, ◌==◌, ◌||◌, ◌↔◌, ◌∷◌, ◌≡◌, ◌≢◌, ◌≤◌, ◌⊎◌}
use Rattle.org_reading.specs.Folded.{IsLineOf_shown, is_file_name_shown, fault_bytes_shown, out_of_memory_shown, Means_shown, step_shown, render_view_shown, AreReadable_shown, file_settings_shown, list_in_shown, IsPatternRefused_shown, view_in_shown, keywords_shown, day_rows_shown, drawer_of_shown, stamps_of_shown, clocks_of_shown, has_key_shown, setting_value_shown, with_given_shown, line_text_shown, line_place_shown, stamp_text_shown, active_at_shown, front_classes_shown, row_text_shown, of_place_shown, is_finished_shown, started_shown, minutes_in_shown, is_tag_char_shown, last_of_shown, classes_below_shown, line_class_shown, add_words_shown, date_text_shown, columns_shown_shown, chain_shown, all_tags_shown, single_text_shown, lacks_time_shown, shift_answer_shown, is_setting_shown, is_shown_shown, entry_text_shown, found_shown, due_day_shown, joined_shown, file_category_shown, priority_value_shown, inner_of_shown, is_name_shown, times_of_shown}

-- each definition is, at every input, what the page of the definitions shows in its place
pub record FoldsHold : Type 0 where
  pub IsLineOf : (x0 : Bool) → (x1 : Command) → (x2 : List ℕ) → IsLineOf x0 x1 x2 ↔ IsLineOf_shown x0 x1 x2
  pub is_file_name : (x0 : List ℕ) → is_file_name x0 ≡ is_file_name_shown x0
  pub fault_bytes : (x0 : Fault) → fault_bytes x0 ≡ fault_bytes_shown x0
  pub out_of_memory : out_of_memory ≡ out_of_memory_shown
  pub Means : (x0 : Command) → (x1 : State) → (x2 : Command_of_org_engine_Step) → Means x0 x1 x2 ↔ Means_shown x0 x1 x2
  pub step : (x0 : Command_of_org_engine_Step) → (x1 : State) → step x0 x1 ≡ step_shown x0 x1
  pub render_view : (x0 : Form) → (x1 : Query) → (x2 : WorldView) → render_view x0 x1 x2 ≡ render_view_shown x0 x1 x2
  pub AreReadable : (x0 : List (List ℕ)) → AreReadable x0 ↔ AreReadable_shown x0
  pub file_settings : (x0 : List ℕ) → file_settings x0 ≡ file_settings_shown x0
  pub list_in : (x0 : Form) → (x1 : Listing) → (x2 : WorldView) → list_in x0 x1 x2 ≡ list_in_shown x0 x1 x2
  pub IsPatternRefused : (x0 : List (List ℕ)) → IsPatternRefused x0 ↔ IsPatternRefused_shown x0
  pub view_in : (x0 : Form) → (x1 : Bool) → (x2 : List Line) → (x3 : WorldView) → view_in x0 x1 x2 x3 ≡ view_in_shown x0 x1 x2 x3
  pub keywords : (x0 : List (List ℕ)) → keywords x0 ≡ keywords_shown x0
  pub day_rows : (x0 : Profile) → (x1 : List HeadingStamp) → (x2 : ℕ) → (x3 : ℕ) → day_rows x0 x1 x2 x3 ≡ day_rows_shown x0 x1 x2 x3
  pub drawer_of : (x0 : List (List ℕ)) → drawer_of x0 ≡ drawer_of_shown x0
  pub stamps_of : (x0 : FileSettings) → (x1 : ℕ) → (x2 : Class) → (x3 : List ℕ) → stamps_of x0 x1 x2 x3 ≡ stamps_of_shown x0 x1 x2 x3
  pub clocks_of : (x0 : Class) → (x1 : List ℕ) → clocks_of x0 x1 ≡ clocks_of_shown x0 x1
  pub has_key : (x0 : List ℕ) → (x1 : List ℕ) → has_key x0 x1 ≡ has_key_shown x0 x1
  pub setting_value : (x0 : List ℕ) → setting_value x0 ≡ setting_value_shown x0
  pub with_given : (x0 : List Property) → (x1 : Given) → with_given x0 x1 ≡ with_given_shown x0 x1
  pub line_text : (x0 : Bool) → (x1 : List Scope) → (x2 : Line) → line_text x0 x1 x2 ≡ line_text_shown x0 x1 x2
  pub line_place : (x0 : List FileView) → (x1 : Line) → line_place x0 x1 ≡ line_place_shown x0 x1
  pub stamp_text : (x0 : Stamp) → stamp_text x0 ≡ stamp_text_shown x0
  pub active_at : (x0 : ℕ) → (x1 : List ℕ) → active_at x0 x1 ≡ active_at_shown x0 x1
  pub front_classes : (x0 : List (List ℕ)) → front_classes x0 ≡ front_classes_shown x0
  pub row_text : (x0 : List Scope) → (x1 : ShownRow) → row_text x0 x1 ≡ row_text_shown x0 x1
  pub of_place : (x0 : List FileView) → (x1 : Of) → of_place x0 x1 ≡ of_place_shown x0 x1
  pub is_finished : (x0 : FileSettings) → (x1 : Option (List ℕ)) → is_finished x0 x1 ≡ is_finished_shown x0 x1
  pub started : (x0 : Row) → started x0 ≡ started_shown x0
  pub minutes_in : (x0 : ClockLine) → (x1 : ℕ × ℕ) → minutes_in x0 x1 ≡ minutes_in_shown x0 x1
  pub is_tag_char : (x0 : ℕ) → is_tag_char x0 ≡ is_tag_char_shown x0
  pub last_of : (x0 : PlanningKeyword) → (x1 : List Pair) → last_of x0 x1 ≡ last_of_shown x0 x1
  pub classes_below : (x0 : List (List ℕ)) → classes_below x0 ≡ classes_below_shown x0
  pub line_class : (x0 : List ℕ) → line_class x0 ≡ line_class_shown x0
  pub add_words : (x0 : Bool) → (x1 : ℕ) → (x2 : List Keyword) → (x3 : List (List ℕ)) → add_words x0 x1 x2 x3 ≡ add_words_shown x0 x1 x2 x3
  pub date_text : (x0 : ℕ) → date_text x0 ≡ date_text_shown x0
  pub columns_shown : (x0 : Option ℕ) → (x1 : Row) → columns_shown x0 x1 ≡ columns_shown_shown x0 x1
  pub chain : (x0 : List (Option ℕ)) → (x1 : ℕ) → (x2 : ℕ) → chain x0 x1 x2 ≡ chain_shown x0 x1 x2
  pub all_tags : (x0 : Scope) → (x1 : ℕ) → all_tags x0 x1 ≡ all_tags_shown x0 x1
  pub single_text : (x0 : Bool) → (x1 : ℕ) → (x2 : List ℕ) → single_text x0 x1 x2 ≡ single_text_shown x0 x1 x2
  pub lacks_time : (x0 : Stamp) → lacks_time x0 ≡ lacks_time_shown x0
  pub shift_answer : (x0 : Stamp) → (x1 : Moment) → shift_answer x0 x1 ≡ shift_answer_shown x0 x1
  pub is_setting : (x0 : List ℕ) → is_setting x0 ≡ is_setting_shown x0
  pub is_shown : (x0 : Profile) → (x1 : RowKind) → (x2 : HeadingStamp) → (x3 : ℕ) → (x4 : ℕ) → is_shown x0 x1 x2 x3 x4 ≡ is_shown_shown x0 x1 x2 x3 x4
  pub entry_text : (x0 : Entry) → (x1 : List (List ℕ)) → entry_text x0 x1 ≡ entry_text_shown x0 x1
  pub found : (x0 : List ℕ) → (x1 : List ℕ) → found x0 x1 ≡ found_shown x0 x1
  pub due_day : (x0 : Profile) → (x1 : Stamp) → (x2 : ℕ) → due_day x0 x1 x2 ≡ due_day_shown x0 x1 x2
  pub joined : (x0 : Stamp) → (x1 : ℕ) → (x2 : Option (Stamp × ℕ)) → joined x0 x1 x2 ≡ joined_shown x0 x1 x2
  pub file_category : (x0 : Scope) → file_category x0 ≡ file_category_shown x0
  pub priority_value : (x0 : FileSettings) → (x1 : List ℕ) → (x2 : Option Span) → priority_value x0 x1 x2 ≡ priority_value_shown x0 x1 x2
  pub inner_of : (x0 : Bool) → (x1 : List ℕ) → inner_of x0 x1 ≡ inner_of_shown x0 x1
  pub is_name : (x0 : List ℕ) → is_name x0 ≡ is_name_shown x0
  pub times_of : (x0 : List ℕ) → times_of x0 ≡ times_of_shown x0
