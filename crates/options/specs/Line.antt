-- What the words of a command line ask for.
use Rattle.std.specs.Prelude.{ℕ, ◌+◌, Bool, true, false, cond, ◌&&◌, List, [], ◌∷◌, length, Some, None, Ok, Err, string_bytes, codes, Option, Result, String, ◌==◌, nat_le, nat_lt}
use Rattle.std.specs.Str.{bytes_eq}
use Rattle.std.specs.declared.alloc.Global.{Global}
use Rattle.numbers.specs.Number.{decimal, digits_only}
use Rattle.options.specs.declared.request.Job.{Job}
use Rattle.options.specs.declared.request.Job.TheVariants as job
use Rattle.options.specs.declared.request.SetKind.{SetKind}
use Rattle.options.specs.declared.request.SetKind.TheVariants as kind
use Rattle.options.specs.declared.request.Limit.{Limit}
use Rattle.options.specs.declared.request.Limit.TheVariants.{Statements, Variables, Sweeps}
use Rattle.options.specs.declared.request.Flag.{Flag}
use Rattle.options.specs.declared.request.Flag.TheVariants as flag
use Rattle.options.specs.declared.request.Options.{Options}
use Rattle.options.specs.declared.request.Request.{Request}
use Rattle.options.specs.declared.request.WrongUse.{WrongUse}
use Rattle.options.specs.declared.request.WrongUse.TheVariants.{UnknownJob, UnknownOption, BadValue, NoValue, OptionAfterFile, TooManyFiles}
use Rattle.options.specs.declared.request.Stage.{Stage}
use Rattle.options.specs.declared.request.Stage.TheVariants as stage
use Rattle.options.specs.declared.request.Progress.{Progress}

-- an option begins with two hyphens
abbrev pub is_option : List ℕ → Bool
is_option [] = false
is_option (a ∷ []) = false
is_option (a ∷ b ∷ rest) = a == 45 && b == 45

-- the jobs, the options and the kinds of sets, by their names
abbrev pub job_named : List ℕ → Option Job
job_named word = cond (bytes_eq word (codes "list")) (Some job.List) (cond (bytes_eq word (codes "help")) (Some job.Help) None)

abbrev pub flag_named : List ℕ → Option Flag
flag_named word =
    cond (bytes_eq word (codes "--statements")) (Some (flag.Number Statements))
    (cond (bytes_eq word (codes "--variables")) (Some (flag.Number Variables))
    (cond (bytes_eq word (codes "--sweeps")) (Some (flag.Number Sweeps))
    (cond (bytes_eq word (codes "--kind")) (Some flag.Kind)
    (cond (bytes_eq word (codes "--explain")) (Some flag.Explain) None))))

abbrev pub kind_named : List ℕ → Option SetKind
kind_named word = cond (bytes_eq word (codes "interval")) (Some kind.Interval) (cond (bytes_eq word (codes "list")) (Some kind.List) None)

-- the most that each number may be
abbrev pub most_of : Limit → ℕ
most_of Statements = 1024
most_of Variables = 64
most_of Sweeps = 65535

-- the value of an option: digits, at least one, and not above its most
abbrev pub value_for : Limit → List ℕ → Option ℕ
value_for limit word = cond (nat_lt 0 (length word) && digits_only word && nat_le (decimal word) (most_of limit)) (Some (decimal word)) None

-- how many files a job takes at most
abbrev pub most_files : Job → ℕ
most_files job.List = 1
most_files job.Help = 0

-- a number option takes the place of the one before it
abbrev pub with_number : Options → Limit → ℕ → Options
with_number o Statements n = record { statements = n; variables = o.variables; sweeps = o.sweeps; kind = o.kind; explain = o.explain }
with_number o Variables n = record { statements = o.statements; variables = n; sweeps = o.sweeps; kind = o.kind; explain = o.explain }
with_number o Sweeps n = record { statements = o.statements; variables = o.variables; sweeps = n; kind = o.kind; explain = o.explain }

abbrev pub with_kind : Options → SetKind → Options
with_kind o k = record { statements = o.statements; variables = o.variables; sweeps = o.sweeps; kind = k; explain = o.explain }

abbrev pub explained : Options → Options
explained o = record { statements = o.statements; variables = o.variables; sweeps = o.sweeps; kind = o.kind; explain = true }

abbrev pub with_options : Request → Options → Request
with_options r o = record { job = r.job; options = o; files = r.files }

abbrev pub at : Stage → Request → Progress
at s r = record { stage = s; request = r }

-- an option may want a value
abbrev pub flag_taken : Request → Option Flag → Result Progress WrongUse
flag_taken r None = Err UnknownOption
flag_taken r (Some (flag.Number limit)) = Ok (at (stage.Number limit) r)
flag_taken r (Some flag.Kind) = Ok (at stage.Kind r)
flag_taken r (Some flag.Explain) = Ok (at stage.Options (with_options r (explained r.options)))

-- one file more, if the job takes it
abbrev pub file_taken : Request → Result Progress WrongUse
file_taken r = cond (nat_lt r.files (most_files r.job)) (Ok (at stage.Files (record { job = r.job; options = r.options; files = r.files + 1 }))) (Err TooManyFiles)

abbrev pub job_taken : Request → Option Job → Result Progress WrongUse
job_taken r None = Err UnknownJob
job_taken r (Some j) = Ok (at stage.Options (record { job = j; options = r.options; files = r.files }))

abbrev pub number_taken : Limit → Request → Option ℕ → Result Progress WrongUse
number_taken limit r None = Err BadValue
number_taken limit r (Some n) = Ok (at stage.Options (with_options r (with_number r.options limit n)))

abbrev pub kind_taken : Request → Option SetKind → Result Progress WrongUse
kind_taken r None = Err BadValue
kind_taken r (Some k) = Ok (at stage.Options (with_options r (with_kind r.options k)))

-- what one word more makes of a line: a job comes first, where one is named, then options, then files
abbrev pub taken_at : Stage → Request → List ℕ → Result Progress WrongUse
taken_at stage.Begin r word = cond (is_option word) (flag_taken r (flag_named word)) (job_taken r (job_named word))
taken_at stage.Options r word = cond (is_option word) (flag_taken r (flag_named word)) (file_taken r)
taken_at (stage.Number limit) r word = number_taken limit r (value_for limit word)
taken_at stage.Kind r word = kind_taken r (kind_named word)
taken_at stage.Files r word = cond (is_option word) (Err OptionAfterFile) (file_taken r)

abbrev pub taken : Progress → List ℕ → Result Progress WrongUse
taken p word = taken_at p.stage p.request word

-- a line may not end where a value is to come
abbrev pub finished_at : Stage → Request → Result Request WrongUse
finished_at stage.Begin r = Ok r
finished_at stage.Options r = Ok r
finished_at (stage.Number limit) r = Err NoValue
finished_at stage.Kind r = Err NoValue
finished_at stage.Files r = Ok r

abbrev pub finished : Progress → Result Request WrongUse
finished p = finished_at p.stage p.request

-- what a line asks for that says nothing: the listing, 64 statements, 15 variables, 100 sweeps, intervals
abbrev pub start : Progress
start = at stage.Begin (record { job = job.List; options = record { statements = 64; variables = 15; sweeps = 100; kind = kind.Interval; explain = false }; files = 0 })

abbrev pub go_on : Result Progress WrongUse → (Progress → Result Request WrongUse) → Result Request WrongUse
go_on (Err e) next = Err e
go_on (Ok p) next = next p

abbrev pub parsed_from : Progress → List (String Global) → Result Request WrongUse
parsed_from p [] = finished p
parsed_from p (w ∷ ws) = go_on (taken p (string_bytes w)) (λ q. parsed_from q ws)

-- what the words of a line ask for
abbrev pub parsed : List (String Global) → Result Request WrongUse
parsed words = parsed_from start words
