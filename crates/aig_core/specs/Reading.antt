-- The AIGER format, version 1.9 (Biere, Heljanko and Wieringa 2011), for circuits without properties. A reader takes what
-- it reads from the front of bytes, or refuses them.
use Rattle.std.specs.Prelude.{ℕ, ◌+◌, ◌-◌, ◌*◌, ◌%◌, ◌==◌, ◌&&◌, Bool, nat_lt, nat_le, List, [], ◌∷◌, codes, map, bytes_eq, if◌then◌else◌, Some, None, option_map}
use Rattle.std.specs.List.{range_with_len, slice_split}
use Rattle.std.specs.Option.{option_and_then}
use Rattle.std.specs.Str.{all_ascii_digits}
use Rattle.std.specs.Str.Parse.{digits_value}
use Rattle.std.specs.declared.option.Option.{Option}
use Rattle.netlist.specs.declared.parts.Init.{Init}
use Rattle.netlist.specs.declared.parts.Init.TheVariants.{Zero, One, Either}
use Rattle.aig_core.specs.declared.edge.Edge.{Edge}
use Rattle.aig_core.specs.Graphs.{edge}
use Rattle.aig_core.specs.Circuits.{Circuit, CircuitLatch, CircuitAnd, Symbol, symbol, input_edge, input_letter, latch_letter, output_letter}

abbrev pub Reader : Type 0 → Type 0
Reader X = List ℕ → Option (X × List ℕ)

-- one reader, and behind it the next, which knows what the first has read
infixl 10 ◌>>=◌
abbrev pub ◌>>=◌ : {X Y : Type 0} → Reader X → (X → Reader Y) → Reader Y
◌>>=◌ read next = λ bytes. option_and_then (λ taken. next taken.0 taken.1) (read bytes)

-- nothing is taken: a value is there, or the bytes are refused
abbrev pub given : {X : Type 0} → Option X → Reader X
given found = λ bytes. option_map (λ x. (x, bytes)) found

-- one item behind another, each read by its number
abbrev pub each : {X : Type 0} → (ℕ → Reader X) → List ℕ → Reader (List X)
each read [] = given (Some [])
each read (i ∷ numbers) = do
  x ← read i
  xs ← each read numbers
  given (Some (x ∷ xs))

-- Bytes, lines and numbers.

-- the bytes before the first of this value, which is taken too
abbrev pub up_to : ℕ → Reader (List ℕ)
up_to mark [] = None
up_to mark (b ∷ bytes) = if b == mark then Some ([], bytes) else option_map (λ taken. (b ∷ taken.0, taken.1)) (up_to mark bytes)

abbrev pub is_lf : ℕ → Bool
is_lf b = b == 10

abbrev pub is_blank : ℕ → Bool
is_blank b = b == 32

-- decimal digits, at least one
abbrev pub number : List ℕ → Option ℕ
number [] = None
number (b ∷ bytes) = if all_ascii_digits (b ∷ bytes) then Some (digits_value 10 (b ∷ bytes)) else None

abbrev pub numbers_of : List (List ℕ) → Option (List ℕ)
numbers_of [] = Some []
numbers_of (word ∷ words) = option_and_then (λ n. option_map (λ ns. n ∷ ns) (numbers_of words)) (number word)

-- a line of numbers with one blank between, for what they mean
abbrev pub line : {X : Type 0} → (List ℕ → Option X) → Reader X
line meaning = do
  bytes ← up_to 10
  ns ← given (numbers_of (slice_split is_blank bytes))
  given (meaning ns)

-- The header: the greatest variable, and how many there are of each kind.

pub record Header : Type 0 where
  pub most : ℕ
  pub inputs : ℕ
  pub latches : ℕ
  pub outputs : ℕ
  pub ands : ℕ

abbrev pub header_of : (Header → Bool) → List ℕ → Option Header
header_of fits (most ∷ inputs ∷ latches ∷ outputs ∷ ands ∷ []) =
    let found : Header = record { most = most; inputs = inputs; latches = latches; outputs = outputs; ands = ands } in
    if fits found then Some found else None
header_of fits other = None

-- the word that tells the form, and the numbers
abbrev pub header : List ℕ → (Header → Bool) → Reader Header
header word fits = do
  first ← up_to 32
  _ ← given (if bytes_eq first word then Some word else None)
  line (header_of fits)

-- at least all of them are variables
abbrev pub has_room : Header → Bool
has_room h = nat_le (h.inputs + h.latches + h.ands) h.most

-- all variables are one of them
abbrev pub is_full : Header → Bool
is_full h = h.inputs + h.latches + h.ands == h.most

-- Literals.

abbrev pub is_literal : Header → ℕ → Bool
is_literal h n = nat_le n (2 * h.most + 1)

-- the literal of a variable that isn't 0, without a complement
abbrev pub is_own : Header → ℕ → Bool
is_own h n = nat_le 2 n && (((n % 2) == 0) && is_literal h n)

abbrev pub input_of : Header → List ℕ → Option Edge
input_of h (own ∷ []) = if is_own h own then Some (edge own) else None
input_of h other = None

abbrev pub output_of : Header → List ℕ → Option Edge
output_of h (n ∷ []) = if is_literal h n then Some (edge n) else None
output_of h other = None

-- Latches start with 0, where nothing else is said, with 1, or with either value, where they name themselves.

abbrev pub start_of : ℕ → ℕ → Option Init
start_of own n =
    if n == 0 then Some Zero
    else if n == 1 then Some One
    else if n == own then Some Either
    else None

abbrev pub loading : Header → ℕ → ℕ → Option Init → Option CircuitLatch
loading h own next start =
    if is_own h own && is_literal h next
    then option_map (λ init. record { own = edge own; next = edge next; start = init }) start
    else None

-- what stands behind the latch's own literal
abbrev pub latch_of : Header → ℕ → List ℕ → Option CircuitLatch
latch_of h own (next ∷ []) = loading h own next (Some Zero)
latch_of h own (next ∷ start ∷ []) = loading h own next (start_of own start)
latch_of h own other = None

abbrev pub latch_line_of : Header → List ℕ → Option CircuitLatch
latch_line_of h [] = None
latch_line_of h (own ∷ ns) = latch_of h own ns

abbrev pub and_of : Header → ℕ → ℕ → ℕ → Option CircuitAnd
and_of h own a b =
    if is_own h own && (is_literal h a && is_literal h b)
    then Some (record { own = edge own; and = record { greater = edge a; smaller = edge b } })
    else None

abbrev pub and_line_of : Header → List ℕ → Option CircuitAnd
and_line_of h (own ∷ a ∷ b ∷ []) = and_of h own a b
and_line_of h other = None

-- The symbols: lines to the end of the text, or to a line `c`, behind which anything may stand.

abbrev pub places_of : Header → ℕ → ℕ
places_of h letter =
    if letter == input_letter then h.inputs
    else if letter == latch_letter then h.latches
    else if letter == output_letter then h.outputs
    else 0

-- a letter, a place and a name
abbrev pub symbol_line_of : Header → List ℕ → Option Symbol
symbol_line_of h [] = None
symbol_line_of h (letter ∷ bytes) =
    option_and_then
    (λ taken.
    option_and_then (λ place. if nat_lt place (places_of h letter) then Some (symbol letter place taken.1) else None) (number taken.0))
    (up_to 32 bytes)

abbrev pub symbol_lines_of : Header → List (List ℕ) → Option (List Symbol)
symbol_lines_of h [] = None
symbol_lines_of h ([] ∷ []) = Some []
symbol_lines_of h (bytes ∷ lines) =
    if bytes_eq bytes (codes "c") then Some []
    else option_and_then (λ first. option_map (λ more. first ∷ more) (symbol_lines_of h lines)) (symbol_line_of h bytes)

abbrev pub symbols : Header → Reader (List Symbol)
symbols h = λ bytes. option_map (λ found. (found, [])) (symbol_lines_of h (slice_split is_lf bytes))

-- The ASCII form.

abbrev pub lines : {X : Type 0} → (List ℕ → Option X) → ℕ → Reader (List X)
lines meaning count = each (λ i. line meaning) (range_with_len 0 count)

abbrev pub ascii : Reader Circuit
ascii = do
  h ← header (codes "aag") has_room
  inputs ← lines (input_of h) h.inputs
  latches ← lines (latch_line_of h) h.latches
  outputs ← lines (output_of h) h.outputs
  ands ← lines (and_line_of h) h.ands
  names ← symbols h
  given (Some (record { most = h.most; inputs = inputs; latches = latches; outputs = outputs; ands = ands; symbols = names }))

-- what a text in the ASCII form says, or nothing for bytes that are none
abbrev pub read_ascii : List ℕ → Option Circuit
read_ascii text = option_map (λ taken. taken.0) (ascii text)

-- The binary form: inputs, latches and ANDs are the variables from 1 on, in this order.

-- a number in groups of seven bits, the least first, with 128 added to each but the last
abbrev pub groups : Reader ℕ
groups [] = None
groups (b ∷ bytes) =
    if nat_lt b 128 then Some (b, bytes)
    else option_map (λ taken. (b - 128 + 128 * taken.0, taken.1)) (groups bytes)

-- the AND whose literal is over that of the first that it reads, and this one not below that of the second
abbrev pub falling : Header → ℕ → ℕ → ℕ → Option CircuitAnd
falling h own first second =
    if nat_lt 0 first && nat_le (first + second) own then and_of h own (own - first) (own - first - second) else None

abbrev pub load : Header → ℕ → Reader CircuitLatch
load h j = line (latch_of h (2 * (1 + h.inputs + j)))

abbrev pub differences : Header → ℕ → Reader CircuitAnd
differences h i = do
  first ← groups
  second ← groups
  given (falling h (2 * (1 + h.inputs + h.latches + i)) first second)

abbrev pub binary : Reader Circuit
binary = do
  h ← header (codes "aig") is_full
  latches ← each (load h) (range_with_len 0 h.latches)
  outputs ← lines (output_of h) h.outputs
  ands ← each (differences h) (range_with_len 0 h.ands)
  names ← symbols h
  given (Some (record { most = h.most; inputs = map input_edge (range_with_len 0 h.inputs); latches = latches; outputs = outputs; ands = ands; symbols = names }))

-- what a text in the binary form says
abbrev pub read_binary : List ℕ → Option Circuit
read_binary text = option_map (λ taken. taken.0) (binary text)
