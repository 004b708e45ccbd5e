-- The text of what is found of two netlists. It is one line.
use Rattle.std.specs.Prelude.{ℕ, List, [], ◌++◌, map, slice_index_or, codes}
use Rattle.netlist.specs.Netlists.{output_names}
use Rattle.netlist.specs.declared.parts.Parts.{Parts}
use Rattle.report.specs.Verdicts.{refusal_text, vector_text}
use Rattle.miters.specs.declared.answer.Answer.{Answer}
use Rattle.miters.specs.declared.answer.Answer.TheVariants.{Equal, Unmatched, First, Second, Output, Latch}
use Rattle.miters.specs.Matching.{latch_name}

-- the name of an output or of a latch, by its place
abbrev pub output_at : Parts → ℕ → List ℕ
output_at net at = slice_index_or (output_names net) at []

abbrev pub latch_at : Parts → ℕ → List ℕ
latch_at net at = slice_index_or (map latch_name net.latches) at []

-- vectors and names are the first one's, and a refusal has those of its own netlist
abbrev pub answer_text : Parts → Parts → Answer → List ℕ
answer_text a b Equal = codes "equal\n"
answer_text a b (Unmatched name) = codes "unmatched " ++ (name ++ codes "\n")
answer_text a b (First r) = codes "first " ++ refusal_text a r
answer_text a b (Second r) = codes "second " ++ refusal_text b r
answer_text a b (Output v at) = (codes "differ output=" ++ output_at a at) ++ vector_text a v
answer_text a b (Latch v at) = (codes "differ latch=" ++ latch_at a at) ++ vector_text a v
