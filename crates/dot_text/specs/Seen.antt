-- How clauses see what is drawn.
use Rattle.std.specs.Prelude.{◌||◌, ℕ, List}
use Rattle.cyc_base.specs.declared.sig.Sig.{Sig}
use Rattle.netlist.specs.Netlists.{is_marked}
use Rattle.loops.specs.Found.{loops_of}
use Rattle.dot_text.specs.Dot.{quoted}
use Rattle.dot_text.specs.ExplanationGraphs.{Picture, pin_line}
use Rattle.dot_text.specs.declared.drawing.Drawing.{Drawing}

abbrev pub picture_seen : Drawing → Picture
picture_seen d = record {
  net = d.looped.now.net;
  loops = loops_of d.looped.now.net;
  values = d.values.items;
  drawn = λ n. (loops_of d.looped.now.net).same d.first n || is_marked d.way.items n;
  cycle = is_marked d.cycle.items;
  way = is_marked d.way.items;
  sides = d.sides.now;
  needs = d.needs.now;
  also = d.also.now;
}

-- a line of a box, between quotes
abbrev pub quoted_line : Picture → ℕ → Sig → List ℕ
quoted_line p n pin = quoted (pin_line p n pin)
