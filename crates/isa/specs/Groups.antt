-- The groups of kinds: the kinds in their order (InstructionSet), cut for the code: the kinds of a group are carried out by one function.
use Rattle.std.specs.Prelude.{ℕ, ◌≤◌, ◌<◌}

-- the first kind of each group, in order
abbrev pub first_branch : ℕ
first_branch = 2

abbrev pub first_nop_movhi : ℕ
first_nop_movhi = 6

abbrev pub first_control : ℕ
first_control = 8

abbrev pub first_load : ℕ
first_load = 16

abbrev pub first_add_immediate : ℕ
first_add_immediate = 23

abbrev pub first_immediate : ℕ
first_immediate = 25

abbrev pub first_compare_immediate : ℕ
first_compare_immediate = 33

abbrev pub first_store : ℕ
first_store = 43

abbrev pub first_arithmetic : ℕ
first_arithmetic = 48

abbrev pub first_logic : ℕ
first_logic = 51

abbrev pub first_compare : ℕ
first_compare = 67

abbrev pub first_cache : ℕ
first_cache = 77

abbrev pub first_product : ℕ
first_product = 80

-- 0, which is no kind, and 88 kinds
abbrev pub kinds : ℕ
kinds = 89

abbrev Within : ℕ → ℕ → ℕ → Type 0
Within low high k = (low ≤ k) × (k < high)

-- jumps and branches by an immediate
abbrev pub IsBranch : ℕ → Type 0
IsBranch = Within first_branch first_nop_movhi

-- l.nop and l.movhi
abbrev pub IsNopMovhi : ℕ → Type 0
IsNopMovhi = Within first_nop_movhi first_control

-- system calls, syncs, the return from an exception, jumps to a register
abbrev pub IsControl : ℕ → Type 0
IsControl = Within first_control first_load

abbrev pub IsLoad : ℕ → Type 0
IsLoad = Within first_load first_add_immediate

-- sums with an immediate
abbrev pub IsAddImmediate : ℕ → Type 0
IsAddImmediate = Within first_add_immediate first_immediate

-- logic and shifts with an immediate, and l.mfspr
abbrev pub IsImmediate : ℕ → Type 0
IsImmediate = Within first_immediate first_compare_immediate

-- set flag with an immediate
abbrev pub IsCompareImmediate : ℕ → Type 0
IsCompareImmediate = Within first_compare_immediate first_store

-- l.mtspr and the stores
abbrev pub IsStore : ℕ → Type 0
IsStore = Within first_store first_arithmetic

-- sums and differences of registers
abbrev pub IsArithmetic : ℕ → Type 0
IsArithmetic = Within first_arithmetic first_logic

-- logic, shifts and extensions of registers
abbrev pub IsLogic : ℕ → Type 0
IsLogic = Within first_logic first_compare

-- set flag of two registers
abbrev pub IsCompare : ℕ → Type 0
IsCompare = Within first_compare first_cache

-- the cache instructions
abbrev pub IsCache : ℕ → Type 0
IsCache = Within first_cache first_product
