use Rattle.std.proofs.Common.{◌≡◌, take, drop}
use Rattle.syntax.specs.declared.record.Name.{Name}
use Rattle.reading.specs.Reading.{aimed_all, label_in}
use Rattle.reading.proofs.Aims.{after}
use Rattle.reading.proofs.targets.aim_jumps.Given as goal

abbrev pub invariant-loop-i : goal.invariant-loop-i
invariant-loop-i l =
    ((name : Name) → label_in l.text l.statements name ≡ label_in l.text l.initial.statements name) × (after (take l.i l.statements) (aimed_all (label_in l.text l.initial.statements) (drop l.i l.statements)) ≡ aimed_all (label_in l.text l.initial.statements) l.initial.statements)
