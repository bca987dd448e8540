-- The lengths of the arrays that a value of a declared type holds.
use mathlib.Core.List.{List}
use mir.Val.{Val}
use denote.Laws.{Is}
use denote.Struct.Declared.{row}
use Rattle.planner.specs.declared.Farm.{Farm}
use Rattle.planner.specs.Model.{Sized, meant}
use Rattle.planner.specs.Parts.{FiguresSized, CellsSized, parts_sized}
use Rattle.planner.specs.contracts.Farm as farm

pub cells_sized : {vs : List Val} (f : Farm) → Is (row farm.the_type) f vs → CellsSized f.cells.nodes f.cells.shares
cells_sized f p = (p.1.1.1.0.1.1.0.1.0.1, p.1.1.1.0.1.1.1.0.1.0.1)

pub stored_figures : {vs : List Val} (f : Farm) → Is (row farm.the_type) f vs → FiguresSized f.figures
stored_figures f p = record {
  allowances = p.1.1.0.1.1.1.1.1.1.0.1.0.1;
  held = p.1.1.0.1.1.1.1.1.1.1.0.1.0.1;
  free = p.1.1.0.1.1.1.1.1.1.1.1.1.1.0.1.0.1;
  jobs = p.1.1.0.1.1.1.1.1.1.1.1.1.1.1.1.1.0.1.0.1;
}

-- What a farm means has lists of its lengths.
pub farm_sized : {vs : List Val} (f : Farm) → Is (row farm.the_type) f vs → Sized (meant f)
farm_sized f p = parts_sized f.figures f.cells.nodes f.cells.shares (stored_figures f p) (cells_sized f p)
