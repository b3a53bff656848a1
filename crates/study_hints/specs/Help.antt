-- The lines of `help`.
use Rattle.std.specs.Prelude.{ℕ, List, [], ◌∷◌, ◌++◌, map, codes, Option, Some, None}
use Rattle.study_words.specs.declared.plan_word.PlanWord.TheVariants as plan
use Rattle.study_words.specs.declared.see_word.SeeWord.TheVariants as see
use Rattle.study_words.specs.declared.event_word.EventWord.TheVariants as event
use Rattle.study_words.specs.declared.study_word.StudyWord.{StudyWord}
use Rattle.study_words.specs.declared.study_word.StudyWord.TheVariants.{Plan, See, Event, Expect}
use Rattle.study_words.specs.StudyWords.{study_text}
use Rattle.text_words.specs.Words.{Word}
use Rattle.study_words.specs.PlanWords.{plan_words}
use Rattle.study_words.specs.SeeWords.{see_words}
use Rattle.study_words.specs.EventWords.{event_words}
use Rattle.study_words.specs.ConditionWords.{condition_words}
use Rattle.study_hints.specs.Grammar.{command_text, expectation_text}

-- all command words, in the order of `help`
abbrev pub commands : List StudyWord
commands = map Plan plan_words ++ map Event event_words ++ map See see_words ++ Expect ∷ []

abbrev pub command_texts : List Word
command_texts = map study_text commands

-- what a command does
unfoldable pub command_meaning : StudyWord → List ℕ
command_meaning (Plan plan.Cost) = codes "sets the cost of a link"
command_meaning (Plan plan.DropLink) = codes "removes one link of a router"
command_meaning (Plan plan.FailLink) = codes "removes the point-to-point links of two routers"
command_meaning (Plan plan.FailNet) = codes "removes a transit network, named by its Designated Router's address"
command_meaning (Plan plan.FailRouter) = codes "removes all LSAs of a router"
command_meaning (Plan plan.AddStub) = codes "adds a stub network"
command_meaning (Plan plan.Summary) = codes "sets the metric of a summary"
command_meaning (Plan plan.AddSummary) = codes "adds a summary"
command_meaning (Plan plan.AddExternal) = codes "adds an external prefix"
command_meaning (Plan plan.DropExternal) = codes "removes an external prefix"
command_meaning (Plan plan.Refresh) = codes "sets the metrics of summaries as their originators announce them"
command_meaning (Plan plan.Undo) = codes "takes the last edits back"
command_meaning (Plan plan.Redo) = codes "carries out undone edits again"
command_meaning (Plan plan.Table) = codes "the routing table of a router, as ospf-plan prints it"
command_meaning (Plan plan.Tables) = codes "the routing tables of all routers"
command_meaning (Plan plan.Compare) = codes "how a table differs from that of the loaded database"
command_meaning (Plan plan.Info) = codes "counts of the database and of the edits"
command_meaning (See see.Routers) = codes "each router with its areas, roles and numbers of links"
command_meaning (See see.Links) = codes "each link with its number, cost, cost back and addresses"
command_meaning (See see.Networks) = codes "each transit network with its Designated Router and members"
command_meaning (See see.Routes) = codes "what a router uses, by neighbor; with an address the longest match"
command_meaning (See see.Path) = codes "the ways of a packet, router by router, and how they end"
command_meaning (See see.Explain) = codes "why a route is what it is, by the rules of RFC 2328"
command_meaning (See see.Changes) = codes "what differs from the baseline, by kind of change"
command_meaning (See see.Differences) = codes "the LSAs that differ from the baseline, by meaning"
command_meaning (See see.Lost) = codes "routes that are gone though their prefix is still announced"
command_meaning (See see.Gone) = codes "routes that are gone because nobody announces their prefix"
command_meaning (See see.Loops) = codes "forwarding loops, and blackholes that the baseline does not have"
command_meaning (See see.Microloops) = codes "what may loop while routers change over the last edits"
command_meaning (See see.Sweep) = codes "what each single failure takes away: its lost, gone and changed routes, and loops"
command_meaning (See see.Audit) = codes "what the answers may not be trusted for; with a kind each place"
command_meaning (See see.Log) = codes "the edits that are done, as lines"
command_meaning (See see.Help) = codes "the words, or what one means"
command_meaning (Event event.Cut) = codes "links of two routers go with their stubs, one by an address; a router leaves a network"
command_meaning (Event event.SetCost) = codes "sets the cost of the interfaces to a neighbor, or of that with an address"
command_meaning (Event event.Drain) = codes "the links of a router to routers and networks cost 65535"
command_meaning (Event event.Fail) = codes "a router goes, with the links to it; others become Designated Router"
command_meaning (Event event.Back) = codes "takes the last edits and events back"
command_meaning Expect = codes "answers ok where the condition holds, else failed and what was found"

-- a line with its end
abbrev pub with_end : List ℕ → List ℕ
with_end line = line ++ codes "\n"

abbrev pub command_line : StudyWord → List ℕ
command_line word = command_text word ++ codes ": " ++ command_meaning word

abbrev pub condition_lines : List (List ℕ)
condition_lines = map expectation_text condition_words

-- `expect` is followed by the conditions
abbrev pub conditions_after : StudyWord → List (List ℕ)
conditions_after (Plan word) = []
conditions_after (See word) = []
conditions_after (Event word) = []
conditions_after Expect = condition_lines

-- the line of each command, and after the last one, which is `expect`, a line for each condition; of one word its line, and for
-- `expect` the conditions, too
abbrev pub help_lines : Option StudyWord → List (List ℕ)
help_lines None = map command_line commands ++ condition_lines
help_lines (Some word) = command_line word ∷ conditions_after word
