-- What a call tells where there is no result. Each text is one line.
use Rattle.std.specs.Prelude.{ℕ, List, ◌++◌, codes, decimal}

-- words outside the grammar
abbrev pub usage_text : List ℕ
usage_text = codes "usage: cyc COMMAND FILES OPTIONS\n"

-- a file that wasn't read
abbrev pub read_failed_text : List ℕ → List ℕ
read_failed_text name = name ++ codes ": read failed\n"

-- a decision that met its limit of nodes
abbrev pub limit_text : ℕ → List ℕ
limit_text limit = codes "node limit " ++ (decimal limit ++ codes " reached\n")

-- a rewritten netlist of this size
abbrev pub too_large_text : ℕ → List ℕ
too_large_text size = codes "too large " ++ (decimal size ++ codes "\n")

-- an assumption of more rows than these
abbrev pub too_many_rows_text : ℕ → List ℕ
too_many_rows_text most = codes "over " ++ (decimal most ++ codes " rows\n")

abbrev pub no_memory_text : List ℕ
no_memory_text = codes "no memory\n"
