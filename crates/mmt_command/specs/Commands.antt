-- The commands, by their words.
use Rattle.std.specs.Prelude.{◌≡◌, ℕ, ◌<◌, ◌≤◌, ◌^◌, List, [], ◌∷◌, codes, decimal}
use Rattle.mmt_model.specs.declared.programmes.FlowChoice.{FlowChoice}
use Rattle.mmt_model.specs.declared.programmes.FlowChoice.TheVariants as flow
use Rattle.mmt_model.specs.declared.programmes.Params.{Params}
use Rattle.mmt_command.specs.Flows.{flow_text, HasFlowRange}
use Rattle.mmt_command.specs.TakeWords.{AsksTake}
use Rattle.mmt_command.specs.declared.words.Command.{Command}
use Rattle.mmt_command.specs.declared.words.Command.TheVariants as command

-- the words of `peak`, with these after its bound
abbrev pub peak_words : Params → List (List ℕ) → List (List ℕ)
peak_words r more = codes "peak" ∷ codes "--delay" ∷ decimal r.delay ∷ codes "--window" ∷ decimal r.window ∷ codes "--bound" ∷ decimal r.bound ∷ more

-- the delay is at least 1 tick, the window is above it and at most 2^24 ticks, and the bound is 1 to 2^30 bytes
pub record HasRanges (r : Params) : Type 0 where
  pub delay : 1 ≤ r.delay
  pub window_low : r.delay < r.window
  pub window_high : r.window ≤ 2 ^ 24
  pub bound_low : 1 ≤ r.bound
  pub bound_high : r.bound ≤ 2 ^ 30

-- the words that choose a flow: none, or the option with the flow's text
abbrev pub flow_words : FlowChoice → List (List ℕ)
flow_words flow.Any = []
flow_words (flow.One f) = codes "--flow" ∷ flow_text f ∷ []

-- a flow that is chosen has its ranges
abbrev pub HasChoiceRange : FlowChoice → Type 0
HasChoiceRange flow.Any = Unit {0}
HasChoiceRange (flow.One f) = HasFlowRange f

-- the words of `mux`, with the name of the plan's file
abbrev pub mux_words : List ℕ → List (List ℕ)
mux_words name = codes "mux" ∷ name ∷ []

-- the words of `trial`, with the names of the plan's file and of that of a list of deliveries
abbrev pub trial_words : List ℕ → List ℕ → List (List ℕ)
trial_words plan list = codes "trial" ∷ plan ∷ list ∷ []

-- the words of `make`, with the number that a programme and a channel come from
abbrev pub make_words : ℕ → List (List ℕ)
make_words seed = codes "make" ∷ decimal seed ∷ []

-- the words of `expand`
abbrev pub expand_words : List (List ℕ)
expand_words = codes "expand" ∷ []

-- the words of `squeeze`, with the first context id that it gives out, and how often a full header comes
abbrev pub squeeze_words : ℕ → ℕ → List (List ℕ)
squeeze_words context full_every = codes "squeeze" ∷ codes "--context" ∷ decimal context ∷ codes "--full-every" ∷ decimal full_every ∷ []

-- the words of `pace`, with the name of the plan's file, and the ticks from one slot to the next
abbrev pub pace_words : List ℕ → ℕ → List (List ℕ)
pace_words name step = codes "pace" ∷ name ∷ codes "--step" ∷ decimal step ∷ []

-- the context id has 12 bits, and a full header comes at least once in 65,535 packets
pub record HasGateRange (context full_every : ℕ) : Type 0 where
  pub short : context < 2 ^ 12
  pub low : 1 ≤ full_every
  pub high : full_every < 2 ^ 16

-- the words are this command
abbrev pub Asks : Command → List (List ℕ) → Type 0
Asks command.List words = words ≡ codes "list" ∷ []
Asks (command.Peak choice params) words = (words ≡ peak_words params (flow_words choice)) × HasRanges params × HasChoiceRange choice
Asks (command.Take options) words = AsksTake options words
Asks command.Mux words = (name : List ℕ) × (words ≡ mux_words name)
Asks command.Trial words = (plan : List ℕ) × (list : List ℕ) × (words ≡ trial_words plan list)
Asks (command.Make seed) words = (words ≡ make_words seed) × (seed < 2 ^ 16)
Asks command.Expand words = words ≡ expand_words
Asks (command.Squeeze context full_every) words = (words ≡ squeeze_words context full_every) × HasGateRange context full_every
Asks (command.Pace step) words = (name : List ℕ) × (words ≡ pace_words name step) × (1 ≤ step) × (step < 2 ^ 24)

-- the words are some command
abbrev pub IsCommand : List (List ℕ) → Type 0
IsCommand words = (command : Command) × Asks command words
