-- Each clause computes. Made by tests/reading.py: `tests/reading.py fold`.
use Rattle.std.proofs.Common.{refl}
use Rattle.org_agenda.specs.Days.{day_rows, due_day, is_shown, source_rows, started}
use Rattle.org_agenda.specs.Lists.{Listing, list_rows}
use Rattle.org_agenda.specs.declared.row.Row.{Row as Row_of_org_agenda_Row}
use Rattle.org_agenda.specs.declared.row.RowKind.{RowKind}
use Rattle.org_agenda.specs.declared.row.RowKind.TheVariants.{InRange, LateDeadline, LateSchedule, Listed, OnDay, OnDeadline, OnSchedule, Warning}
use Rattle.org_agenda.specs.declared.source.HeadingStamp.{HeadingStamp}
use Rattle.org_base.specs.Characters.{is_tag_char}
use Rattle.org_base.specs.FileName.{is_file_name}
use Rattle.org_base.specs.Properties.{Given, Property, with_given}
use Rattle.org_base.specs.declared.fault.Fault.{Fault}
use Rattle.org_base.specs.declared.profile.Profile.{Profile as Profile_of_org_base_Profile}
use Rattle.org_base.specs.declared.profile.Profile.TheVariants.{One, Two}
use Rattle.org_base.specs.declared.span.Span.{Span}
use Rattle.org_cal.specs.Texts.{date_text}
use Rattle.org_cal.specs.declared.moment.Moment.{Moment}
use Rattle.org_class.specs.Classes.{front_classes}
use Rattle.org_class.specs.Drawers.{classes_below}
use Rattle.org_class.specs.LineClass.{is_setting, line_class}
use Rattle.org_class.specs.declared.class.Class.{Class}
use Rattle.org_class.specs.declared.class.Class.TheVariants.{Clock as Clock_of_org_class_TheVariants, Heading, Plain, Setting}
use Rattle.org_clocktable.specs.declared.row.Of.{Of}
use Rattle.org_clocktable.specs.declared.row.Of.TheVariants.{All, File, Heading as Heading_of_org_clocktable_TheVariants}
use Rattle.org_drawer.specs.Clock.{minutes_in}
use Rattle.org_drawer.specs.Node.{drawer_of}
use Rattle.org_drawer.specs.Planning.{last_of}
use Rattle.org_drawer.specs.declared.clock.ClockLine.{ClockLine}
use Rattle.org_engine.specs.Places.{file_line, line_place, list_in, of_place, view_in}
use Rattle.org_engine.specs.Step.{AddFile, Ask, At as At_of_org_engine_Step, ClockTable, Command as Command_of_org_engine_Step, Complete as Complete_of_org_engine_Step, DayAgenda, DropFile, EditFile, Inherit as Inherit_of_org_engine_Step, KeywordsOf, MatchList, PinWorld, Query, SetProfile, TextOf, TodoList, Unpin as Unpin_of_org_engine_Step, Unread, Version as Version_of_org_engine_Step, render_view, step}
use Rattle.org_engine.specs.World.{FileView, State, WorldView}
use Rattle.org_engine.specs.declared.question.Form.{Form}
use Rattle.org_engine.specs.declared.question.Form.TheVariants.{Places, Text as Text_of_org_engine_TheVariants}
use Rattle.org_entry.specs.Entry.{active_at, clocks_of, stamps_of}
use Rattle.org_entry.specs.Keyword.{is_finished}
use Rattle.org_entry.specs.declared.entry.Entry.{Entry}
use Rattle.org_inherit.specs.Category.{file_category}
use Rattle.org_inherit.specs.Scope.{Scope}
use Rattle.org_inherit.specs.Special.{priority_value}
use Rattle.org_inherit.specs.Tags.{all_tags}
use Rattle.org_layout.specs.Days.{day_columns, day_line}
use Rattle.org_layout.specs.Lines.{entry_text}
use Rattle.org_layout.specs.Shown.{columns_shown, line_text, row_text}
use Rattle.org_layout.specs.Tables.{step_line, table_line}
use Rattle.org_layout.specs.declared.shown.Line.{Line}
use Rattle.org_layout.specs.declared.shown.Line.TheVariants.{Day, Row, Step, Table}
use Rattle.org_layout.specs.declared.shown.ShownRow.{ShownRow}
use Rattle.org_match.specs.Patterns.{IsReadable, IsRefused, found, found_in}
use Rattle.org_match.specs.Refusal.{AreReadable, IsPatternRefused}
use Rattle.org_outline.specs.Tree.{chain}
use Rattle.org_repeat.specs.Decided.{next_after}
use Rattle.org_repeat.specs.Shift.{shift_answer}
use Rattle.org_repeat.specs.Shifted.{lacks_time}
use Rattle.org_settings.specs.Keywords.{Keyword, add_words, keywords}
use Rattle.org_settings.specs.SettingLines.{has_key, setting_value}
use Rattle.org_settings.specs.Settings.{FileSettings}
use Rattle.org_stamp.specs.Inner.{inner_of, is_name, times_of}
use Rattle.org_stamp.specs.Print.{single_text, stamp_text}
use Rattle.org_stamp.specs.Read.{joined}
use Rattle.org_stamp.specs.Word.{words}
use Rattle.org_stamp.specs.declared.pair.Pair.{Pair}
use Rattle.org_stamp.specs.declared.pair.PlanningKeyword.{PlanningKeyword}
use Rattle.org_stamp.specs.declared.stamp.Stamp.{Stamp}
use Rattle.org_store.specs.Outline.{file_settings}
use Rattle.org_wire.specs.Replies.{fault_bytes}
use Rattle.org_wire.specs.Run.{Means, out_of_memory}
use Rattle.org_wire.specs.Spelled.{IsLineOf}
use Rattle.org_wire.specs.declared.command.Command.{Command}
use Rattle.org_wire.specs.declared.command.Command.TheVariants.{Add, Agenda, At, Clock, Complete, Drop, Edit, Inherit, Keywords, Match, Pin, Profile, Text, Todo, Unpin, Version}
use Rattle.std.specs.Prelude.{Bool, Err, List, None, Ok, Option, Some, [], if◌then◌else◌, suc, zero, ℕ, ◌%◌, ◌&&◌, ◌*◌, ◌++◌, ◌+◌, ◌-◌, ◌/◌, ◌<◌, ◌==◌, ◌||◌, ◌↔◌, ◌∷◌, ◌≡◌, ◌≢◌, ◌≤◌, ◌⊎◌}
use Rattle.org_reading.specs.Folded.{IsLineOf_shown, is_file_name_shown, fault_bytes_shown, out_of_memory_shown, Means_shown, step_shown, render_view_shown, AreReadable_shown, file_settings_shown, list_in_shown, IsPatternRefused_shown, view_in_shown, keywords_shown, day_rows_shown, drawer_of_shown, stamps_of_shown, clocks_of_shown, has_key_shown, setting_value_shown, with_given_shown, line_text_shown, line_place_shown, stamp_text_shown, active_at_shown, front_classes_shown, row_text_shown, of_place_shown, is_finished_shown, started_shown, minutes_in_shown, is_tag_char_shown, last_of_shown, classes_below_shown, line_class_shown, add_words_shown, date_text_shown, columns_shown_shown, chain_shown, all_tags_shown, single_text_shown, lacks_time_shown, shift_answer_shown, is_setting_shown, is_shown_shown, entry_text_shown, found_shown, due_day_shown, joined_shown, file_category_shown, priority_value_shown, inner_of_shown, is_name_shown, times_of_shown}
use Rattle.org_reading.specs.Laws.{FoldsHold}

pub fold_IsLineOf : (x0 : Bool) → (x1 : Command) → (x2 : List ℕ) → IsLineOf x0 x1 x2 ↔ IsLineOf_shown x0 x1 x2
fold_IsLineOf second (Add name bytes) line = (λ it. it, λ it. it)
fold_IsLineOf second (Drop name) line = (λ it. it, λ it. it)
fold_IsLineOf second (Edit seen at del bytes) line = (λ it. it, λ it. it)
fold_IsLineOf second (Complete seen place keyword) line = (λ it. it, λ it. it)
fold_IsLineOf second (Inherit names) line = (λ it. it, λ it. it)
fold_IsLineOf second (At moment) line = (λ it. it, λ it. it)
fold_IsLineOf second (Profile profile) line = (λ it. it, λ it. it)
fold_IsLineOf second (Pin session) line = (λ it. it, λ it. it)
fold_IsLineOf second (Unpin session) line = (λ it. it, λ it. it)
fold_IsLineOf second (Text name) line = (λ it. it, λ it. it)
fold_IsLineOf second (Keywords name) line = (λ it. it, λ it. it)
fold_IsLineOf second Version line = (λ it. it, λ it. it)
fold_IsLineOf second (Todo request file keywords) line = (λ it. it, λ it. it)
fold_IsLineOf second (Match request file text) line = (λ it. it, λ it. it)
fold_IsLineOf second (Agenda request date days) line = (λ it. it, λ it. it)
fold_IsLineOf second (Clock request text) line = (λ it. it, λ it. it)

pub fold_is_file_name : (x0 : List ℕ) → is_file_name x0 ≡ is_file_name_shown x0
fold_is_file_name name = refl

pub fold_fault_bytes : (x0 : Fault) → fault_bytes x0 ≡ fault_bytes_shown x0
fold_fault_bytes fault = refl

pub fold_out_of_memory : out_of_memory ≡ out_of_memory_shown
fold_out_of_memory = refl

pub fold_Means : (x0 : Command) → (x1 : State) → (x2 : Command_of_org_engine_Step) → Means x0 x1 x2 ↔ Means_shown x0 x1 x2
fold_Means (Add name text) s said = (λ it. it, λ it. it)
fold_Means (Drop name) s said = (λ it. it, λ it. it)
fold_Means (Edit seen at del ins) s said = (λ it. it, λ it. it)
fold_Means (Complete seen line keyword) s said = (λ it. it, λ it. it)
fold_Means (Inherit names) s said = (λ it. it, λ it. it)
fold_Means (At moment) s said = (λ it. it, λ it. it)
fold_Means (Profile profile) s said = (λ it. it, λ it. it)
fold_Means (Pin session) s said = (λ it. it, λ it. it)
fold_Means (Unpin session) s said = (λ it. it, λ it. it)
fold_Means (Text name) s said = (λ it. it, λ it. it)
fold_Means (Keywords name) s said = (λ it. it, λ it. it)
fold_Means Version s said = (λ it. it, λ it. it)
fold_Means (Todo request file words) s said = (λ it. it, λ it. it)
fold_Means (Match request file text) s said = (λ it. it, λ it. it)
fold_Means (Agenda request date days) s said = (λ it. it, λ it. it)
fold_Means (Clock request text) s said = (λ it. it, λ it. it)

pub fold_step : (x0 : Command_of_org_engine_Step) → (x1 : State) → step x0 x1 ≡ step_shown x0 x1
fold_step (AddFile name text) s = refl
fold_step (DropFile name) s = refl
fold_step (EditFile session name serial at del ins) s = refl
fold_step (Complete_of_org_engine_Step session name serial line keyword) s = refl
fold_step (Inherit_of_org_engine_Step names) s = refl
fold_step (At_of_org_engine_Step moment) s = refl
fold_step (SetProfile p) s = refl
fold_step (PinWorld session) s = refl
fold_step (Unpin_of_org_engine_Step session) s = refl
fold_step (TextOf name) s = refl
fold_step (KeywordsOf name) s = refl
fold_step Version_of_org_engine_Step s = refl
fold_step (Ask question form session) s = refl

pub fold_render_view : (x0 : Form) → (x1 : Query) → (x2 : WorldView) → render_view x0 x1 x2 ≡ render_view_shown x0 x1 x2
fold_render_view form (TodoList file words) world = refl
fold_render_view form (MatchList file (Ok expr)) world = refl
fold_render_view form (MatchList file (Err f)) world = refl
fold_render_view form (DayAgenda first count) world = refl
fold_render_view form (ClockTable table) world = refl
fold_render_view form (Unread f) world = refl

pub fold_AreReadable : (x0 : List (List ℕ)) → AreReadable x0 ↔ AreReadable_shown x0
unfolding IsReadable
fold_AreReadable ps = (λ it. it, λ it. it)

pub fold_file_settings : (x0 : List ℕ) → file_settings x0 ≡ file_settings_shown x0
fold_file_settings text = refl

pub fold_list_in : (x0 : Form) → (x1 : Listing) → (x2 : WorldView) → list_in x0 x1 x2 ≡ list_in_shown x0 x1 x2
unfolding list_rows
fold_list_in form listing world = refl

pub fold_IsPatternRefused : (x0 : List (List ℕ)) → IsPatternRefused x0 ↔ IsPatternRefused_shown x0
unfolding IsRefused
fold_IsPatternRefused ps = (λ it. it, λ it. it)

pub fold_view_in : (x0 : Form) → (x1 : Bool) → (x2 : List Line) → (x3 : WorldView) → view_in x0 x1 x2 x3 ≡ view_in_shown x0 x1 x2 x3
fold_view_in Text_of_org_engine_TheVariants with_effort lines world = refl
fold_view_in Places with_effort lines world = refl

pub fold_keywords : (x0 : List (List ℕ)) → keywords x0 ≡ keywords_shown x0
fold_keywords lines = refl

pub fold_day_rows : (x0 : Profile_of_org_base_Profile) → (x1 : List HeadingStamp) → (x2 : ℕ) → (x3 : ℕ) → day_rows x0 x1 x2 x3 ≡ day_rows_shown x0 x1 x2 x3
unfolding day_rows source_rows
fold_day_rows p sources today day = refl

pub fold_drawer_of : (x0 : List (List ℕ)) → drawer_of x0 ≡ drawer_of_shown x0
fold_drawer_of lines = refl

pub fold_stamps_of : (x0 : FileSettings) → (x1 : ℕ) → (x2 : Class) → (x3 : List ℕ) → stamps_of x0 x1 x2 x3 ≡ stamps_of_shown x0 x1 x2 x3
fold_stamps_of settings at Heading bytes = refl
fold_stamps_of settings at Setting bytes = refl
fold_stamps_of settings at Plain bytes = refl
fold_stamps_of settings at _ bytes = refl

pub fold_clocks_of : (x0 : Class) → (x1 : List ℕ) → clocks_of x0 x1 ≡ clocks_of_shown x0 x1
fold_clocks_of Clock_of_org_class_TheVariants bytes = refl
fold_clocks_of _ bytes = refl

pub fold_has_key : (x0 : List ℕ) → (x1 : List ℕ) → has_key x0 x1 ≡ has_key_shown x0 x1
fold_has_key key line = refl

pub fold_setting_value : (x0 : List ℕ) → setting_value x0 ≡ setting_value_shown x0
fold_setting_value line = refl

pub fold_with_given : (x0 : List Property) → (x1 : Given) → with_given x0 x1 ≡ with_given_shown x0 x1
fold_with_given [] given = refl
fold_with_given (p ∷ ps) given = refl

pub fold_line_text : (x0 : Bool) → (x1 : List Scope) → (x2 : Line) → line_text x0 x1 x2 ≡ line_text_shown x0 x1 x2
unfolding day_line step_line table_line
fold_line_text with_effort scopes (Day day) = refl
fold_line_text with_effort scopes (Step first last) = refl
fold_line_text with_effort scopes (Row shown) = refl
fold_line_text with_effort scopes (Table row) = refl

pub fold_line_place : (x0 : List FileView) → (x1 : Line) → line_place x0 x1 ≡ line_place_shown x0 x1
fold_line_place files (Row shown) = refl
fold_line_place files (Table row) = refl
fold_line_place files _ = refl

pub fold_stamp_text : (x0 : Stamp) → stamp_text x0 ≡ stamp_text_shown x0
fold_stamp_text s = refl

pub fold_active_at : (x0 : ℕ) → (x1 : List ℕ) → active_at x0 x1 ≡ active_at_shown x0 x1
fold_active_at at bytes = refl

pub fold_front_classes : (x0 : List (List ℕ)) → front_classes x0 ≡ front_classes_shown x0
fold_front_classes [] = refl
fold_front_classes (l ∷ ls) = refl

pub fold_row_text : (x0 : List Scope) → (x1 : ShownRow) → row_text x0 x1 ≡ row_text_shown x0 x1
fold_row_text scopes shown = refl

pub fold_of_place : (x0 : List FileView) → (x1 : Of) → of_place x0 x1 ≡ of_place_shown x0 x1
unfolding file_line
fold_of_place files All = refl
fold_of_place files (File file) = refl
fold_of_place files (Heading_of_org_clocktable_TheVariants file heading level) = refl

pub fold_is_finished : (x0 : FileSettings) → (x1 : Option (List ℕ)) → is_finished x0 x1 ≡ is_finished_shown x0 x1
fold_is_finished settings found = refl

pub fold_started : (x0 : Row_of_org_agenda_Row) → started x0 ≡ started_shown x0
fold_started row = refl

pub fold_minutes_in : (x0 : ClockLine) → (x1 : ℕ × ℕ) → minutes_in x0 x1 ≡ minutes_in_shown x0 x1
fold_minutes_in clock (first, last) = refl

pub fold_is_tag_char : (x0 : ℕ) → is_tag_char x0 ≡ is_tag_char_shown x0
fold_is_tag_char c = refl

pub fold_last_of : (x0 : PlanningKeyword) → (x1 : List Pair) → last_of x0 x1 ≡ last_of_shown x0 x1
fold_last_of word [] = refl
fold_last_of word (p ∷ ps) = refl

pub fold_classes_below : (x0 : List (List ℕ)) → classes_below x0 ≡ classes_below_shown x0
fold_classes_below [] = refl
fold_classes_below (l ∷ ls) = refl

pub fold_line_class : (x0 : List ℕ) → line_class x0 ≡ line_class_shown x0
fold_line_class l = refl

pub fold_add_words : (x0 : Bool) → (x1 : ℕ) → (x2 : List Keyword) → (x3 : List (List ℕ)) → add_words x0 x1 x2 x3 ≡ add_words_shown x0 x1 x2 x3
fold_add_words done first ks ws = refl

pub fold_date_text : (x0 : ℕ) → date_text x0 ≡ date_text_shown x0
fold_date_text day = refl

pub fold_columns_shown : (x0 : Option ℕ) → (x1 : Row_of_org_agenda_Row) → columns_shown x0 x1 ≡ columns_shown_shown x0 x1
unfolding day_columns
fold_columns_shown day row = refl

pub fold_chain : (x0 : List (Option ℕ)) → (x1 : ℕ) → (x2 : ℕ) → chain x0 x1 x2 ≡ chain_shown x0 x1 x2
fold_chain ls zero i = refl
fold_chain ls (suc n) i = refl

pub fold_all_tags : (x0 : Scope) → (x1 : ℕ) → all_tags x0 x1 ≡ all_tags_shown x0 x1
fold_all_tags scope i = refl

pub fold_single_text : (x0 : Bool) → (x1 : ℕ) → (x2 : List ℕ) → single_text x0 x1 x2 ≡ single_text_shown x0 x1 x2
fold_single_text active day tail = refl

pub fold_lacks_time : (x0 : Stamp) → lacks_time x0 ≡ lacks_time_shown x0
fold_lacks_time s = refl

pub fold_shift_answer : (x0 : Stamp) → (x1 : Moment) → shift_answer x0 x1 ≡ shift_answer_shown x0 x1
unfolding shift_answer
fold_shift_answer s now = refl

pub fold_is_setting : (x0 : List ℕ) → is_setting x0 ≡ is_setting_shown x0
fold_is_setting l = refl

pub fold_is_shown : (x0 : Profile_of_org_base_Profile) → (x1 : RowKind) → (x2 : HeadingStamp) → (x3 : ℕ) → (x4 : ℕ) → is_shown x0 x1 x2 x3 x4 ≡ is_shown_shown x0 x1 x2 x3 x4
fold_is_shown p Listed s today day = refl
fold_is_shown p OnDay s today day = refl
fold_is_shown p InRange s today day = refl
fold_is_shown p OnSchedule s today day = refl
fold_is_shown p LateSchedule s today day = refl
fold_is_shown p OnDeadline s today day = refl
fold_is_shown p Warning s today day = refl
fold_is_shown p LateDeadline s today day = refl

pub fold_entry_text : (x0 : Entry) → (x1 : List (List ℕ)) → entry_text x0 x1 ≡ entry_text_shown x0 x1
fold_entry_text e tags = refl

pub fold_found : (x0 : List ℕ) → (x1 : List ℕ) → found x0 x1 ≡ found_shown x0 x1
unfolding found found_in
fold_found pattern text = refl

pub fold_due_day : (x0 : Profile_of_org_base_Profile) → (x1 : Stamp) → (x2 : ℕ) → due_day x0 x1 x2 ≡ due_day_shown x0 x1 x2
unfolding next_after
fold_due_day One s today = refl
fold_due_day Two s today = refl

pub fold_joined : (x0 : Stamp) → (x1 : ℕ) → (x2 : Option (Stamp × ℕ)) → joined x0 x1 x2 ≡ joined_shown x0 x1 x2
fold_joined s n None = refl
fold_joined s n (Some t) = refl

pub fold_file_category : (x0 : Scope) → file_category x0 ≡ file_category_shown x0
fold_file_category scope = refl

pub fold_priority_value : (x0 : FileSettings) → (x1 : List ℕ) → (x2 : Option Span) → priority_value x0 x1 x2 ≡ priority_value_shown x0 x1 x2
fold_priority_value settings text None = refl
fold_priority_value settings text (Some cookie) = refl

pub fold_inner_of : (x0 : Bool) → (x1 : List ℕ) → inner_of x0 x1 ≡ inner_of_shown x0 x1
unfolding inner_of words
fold_inner_of active [] = refl
fold_inner_of active (b ∷ bs) = refl

pub fold_is_name : (x0 : List ℕ) → is_name x0 ≡ is_name_shown x0
fold_is_name word = refl

pub fold_times_of : (x0 : List ℕ) → times_of x0 ≡ times_of_shown x0
fold_times_of word = refl

pub folds_hold : FoldsHold
folds_hold = record {
  IsLineOf = fold_IsLineOf;
  is_file_name = fold_is_file_name;
  fault_bytes = fold_fault_bytes;
  out_of_memory = fold_out_of_memory;
  Means = fold_Means;
  step = fold_step;
  render_view = fold_render_view;
  AreReadable = fold_AreReadable;
  file_settings = fold_file_settings;
  list_in = fold_list_in;
  IsPatternRefused = fold_IsPatternRefused;
  view_in = fold_view_in;
  keywords = fold_keywords;
  day_rows = fold_day_rows;
  drawer_of = fold_drawer_of;
  stamps_of = fold_stamps_of;
  clocks_of = fold_clocks_of;
  has_key = fold_has_key;
  setting_value = fold_setting_value;
  with_given = fold_with_given;
  line_text = fold_line_text;
  line_place = fold_line_place;
  stamp_text = fold_stamp_text;
  active_at = fold_active_at;
  front_classes = fold_front_classes;
  row_text = fold_row_text;
  of_place = fold_of_place;
  is_finished = fold_is_finished;
  started = fold_started;
  minutes_in = fold_minutes_in;
  is_tag_char = fold_is_tag_char;
  last_of = fold_last_of;
  classes_below = fold_classes_below;
  line_class = fold_line_class;
  add_words = fold_add_words;
  date_text = fold_date_text;
  columns_shown = fold_columns_shown;
  chain = fold_chain;
  all_tags = fold_all_tags;
  single_text = fold_single_text;
  lacks_time = fold_lacks_time;
  shift_answer = fold_shift_answer;
  is_setting = fold_is_setting;
  is_shown = fold_is_shown;
  entry_text = fold_entry_text;
  found = fold_found;
  due_day = fold_due_day;
  joined = fold_joined;
  file_category = fold_file_category;
  priority_value = fold_priority_value;
  inner_of = fold_inner_of;
  is_name = fold_is_name;
  times_of = fold_times_of;
}
