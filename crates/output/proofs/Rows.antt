-- Document 01's example, whole, and the edges of reading: no line, an empty line, no final line feed.
use mathlib.Core.Path.{◌≡◌, refl}
use mathlib.Core.List.{[]}
use Rattle.lists.specs.Tab.{tab}
use Rattle.lists.specs.Search.{first_at, count_of}
use Rattle.model.specs.Model.{free_slot}
use Rattle.model.specs.Steps.{claimed, start_step, admitted, admit_step, collect_step}
use Rattle.model.specs.Switch.{leaves, enters, parks, chooses, turn, pulls, switch_on, switch_step}
use Rattle.model.specs.Calls as task
use Rattle.runs.specs.Tables.{step}
use Rattle.text.specs.Text.{bytes, same, onto, split, trim, lines, value, number}
use Rattle.text.specs.Print.{digits, decimal}
use Rattle.lines.specs.Lines.{pick, with_one, with_two, kind_word, one_word, two_words, three_words, read_words, read_line}
use Rattle.print.specs.Texts.{id_text, answer_text, line_text}
use Rattle.output.specs.Output.{REFUSAL, plays, end_text, run, events_text}

pub example : events_text (bytes "new 4\nstart\nadmit 0\nswitch 0 yield\nswitch 0 exit\ncollect") ≡ bytes "events 1\n1 0 ok\n2 0 ok\n3 0 1/0\n4 0 0/0 1/0 -\n5 0 1/0 0/0 -\n6 0 1/0\nend 6 1 0 2\n"
unfolding events_text run end_text plays step task.step start_step claimed admit_step admitted free_slot first_at count_of tab switch_step switch_on pulls turn leaves chooses enters parks collect_step lines trim split onto read_line read_words one_word two_words three_words pick same with_one with_two kind_word number value line_text answer_text id_text decimal digits
example = refl

pub refused-whole : REFUSAL ≡ bytes "0 13\n"
unfolding line_text answer_text decimal digits
refused-whole = refl

pub nothing : events_text [] ≡ bytes "events 1\nend 0 0 0 0\n"
unfolding events_text run end_text count_of lines trim split decimal digits
nothing = refl

-- a final line feed starts no line, a lone one ends an empty line; a refused `new` leaves the tables
pub feeds : events_text (bytes "start\nnew 65\n\nstart\n") ≡ bytes "events 1\n1 0 ok\n2 2\n3 12\n4 4\nend 4 1 0 1\n"
unfolding events_text run end_text plays step task.step start_step claimed count_of lines trim split onto read_line read_words one_word two_words pick same with_one number value line_text answer_text decimal digits
feeds = refl
