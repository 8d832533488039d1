-- What the rows of a table promise of the statements before which they stand.
use Rattle.std.specs.Prelude.{◌≡◌, ℕ, ◌<◌, ◌≤◌, true, List, ◌∷◌, map, length, get_or, ◌≤ℤ◌, Some, Ok, Err, ◌≢◌, slice_index_or}
use Rattle.domain.specs.Domain.{Ops}
use Rattle.syntax.specs.declared.record.Class.{Class}
use Rattle.syntax.specs.declared.record.Class.TheVariants.{Local, Input, Output}
use Rattle.syntax.specs.declared.record.Constant.{Constant}
use Rattle.syntax.specs.declared.record.Constant.TheVariants as constant
use Rattle.syntax.specs.declared.record.Operation.{Operation}
use Rattle.syntax.specs.declared.record.Operation.TheVariants as operation
use Rattle.syntax.specs.declared.record.Variable.{Variable}
use Rattle.syntax.specs.declared.record.Statement.{Statement}
use Rattle.syntax.specs.Records.{no_variable}
use Rattle.reading.specs.Formed.{names_only, Ordered}
use Rattle.cells.specs.declared.value.Value.{Value}
use Rattle.cells.specs.declared.value.Value.TheVariants.{Unset, Bool, Int}
use Rattle.cells.specs.declared.cell.Cell.{Cell}
use Rattle.cells.specs.Values.{value_of, is_sized}
use Rattle.meaning.specs.declared.compute.Cause.{Cause}
use Rattle.meaning.specs.declared.edge.Edge.{Edge}
use Rattle.meaning.specs.Meaning.{State, perform}
use Rattle.transfer.specs.Rows.{covers_all, start_row, width}
use Rattle.transfer.specs.Transfer.{carried, return_row}
use Rattle.transfer.specs.Marks.{marks_of, has_cause}

-- every number that a state holds lies inside INT
pub record Sized (s : State) : Type 0 where
  pub cr : is_sized s.cr ≡ true
  pub values : (j : ℕ) → is_sized (slice_index_or s.values j Unset) ≡ true

-- what a scan gives one variable: a BOOL input either truth, an INT input a number of its range; any other keeps its value
abbrev pub GivenBy : Constant → Variable → Value → Type 0
GivenBy (constant.Bool b) v (Bool t) = Unit {0}
GivenBy (constant.Bool b) v Unset = ⊥
GivenBy (constant.Bool b) v (Int n) = ⊥
GivenBy (constant.Int k) v (Int n) = (v.range.low ≤ℤ n) × (n ≤ℤ v.range.high)
GivenBy (constant.Int k) v Unset = ⊥
GivenBy (constant.Int k) v (Bool t) = ⊥

abbrev pub StartedAt : Class → Variable → Value → Value → Type 0
StartedAt Local v old new = new ≡ old
StartedAt Input v old new = GivenBy v.declaration.initial v new
StartedAt Output v old new = new ≡ old

-- the values after a scan has started
abbrev pub Started : List Variable → List Value → List Value → Type 0
Started vars old new = (j : ℕ) → j < length vars → StartedAt (get_or vars j no_variable).declaration.class (slice_index_or vars j no_variable) (slice_index_or old j Unset) (slice_index_or new j Unset)

-- the values that a program begins with
abbrev pub initial_values : List Variable → List Value
initial_values vars = map (λ v. value_of v.declaration.initial) vars

module _ {S : Type 0} (o : Ops S) where
  -- a row covers a state
  abbrev pub CoversState : List (Cell S) → State → Type 0
  CoversState row s = covers_all o row (s.cr ∷ s.values) ≡ true

  -- a statement of a program, a row of its width, and a state that the row covers
  pub record Before (vars : List Variable) (ss : List Statement) (op : Operation) (row : List (Cell S)) (s : State) : Type 0 where
    pub names : names_only (length vars) ss op ≡ true
    pub ordered : Ordered vars
    pub long : length row ≡ width vars
    pub there : length vars ≤ length s.values
    pub sized : Sized s
    pub covered : CoversState row s

  -- simulation: where the statement runs to a new state, the row that is carried that way covers it
  abbrev pub Simulates : Type 0
  Simulates = (vars : List Variable) (ss : List Statement) (op : Operation) (row : List (Cell S)) (s : State) → Before vars ss op row s → (edge : Edge) (t : State) → perform vars op s ≡ Ok (edge, t) → (op ≢ operation.Return) → (next : List (Cell S)) × (carried o vars row op edge ≡ Some next) × CoversState next t

  -- and after a return, whatever the next scan is given
  abbrev pub SimulatesReturn : Type 0
  SimulatesReturn = (vars : List Variable) (ss : List Statement) (row : List (Cell S)) (s : State) → Before vars ss operation.Return row s → (new : List Value) → Started vars s.values new → CoversState (return_row o vars row) (record { cr = Unset; values = new })

  -- the start row covers the first state, whatever the first scan is given
  abbrev pub StartsCovered : Type 0
  StartsCovered = (vars : List Variable) → Ordered vars → (new : List Value) → Started vars (initial_values vars) new → CoversState (start_row o vars) (record { cr = Unset; values = new })

  -- stops are foreseen: where the statement stops, the marks of the row have the cause
  abbrev pub Foresees : Type 0
  Foresees = (vars : List Variable) (ss : List Statement) (op : Operation) (row : List (Cell S)) (s : State) → Before vars ss op row s → (cause : Cause) → perform vars op s ≡ Err cause → has_cause (marks_of o vars row op) cause ≡ true
