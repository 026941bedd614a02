-- The table that a drawing is made in, read as a drawing under way: for the functions that fill it.
use Rattle.std.specs.Prelude.{slice_index}
use Rattle.drawing.specs.declared.page.Page.{Page}
use Rattle.drawing.specs.Pieces.{Draft}

-- the drawing on a page
abbrev pub draft : Page → Draft
draft page = record { nodes = page.nodes.items; refers = λ k. slice_index page.refers k }
