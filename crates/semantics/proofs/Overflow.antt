-- Document 02, note 1: l.addi and l.addic raise range "as l.add does". They are l.add and l.addc with the immediate in rB's place. Assumes nothing.
use mathlib.Core.List.{List}
use mathlib.Core.Path.{◌≡◌, refl}
use Prim.Native.Nat.{ℕ}
use Rattle.effect.specs.Effect.{onward, advances, restart, raises}
use Rattle.effect.specs.declared.types.Inputs.{Inputs}
use Rattle.effect.specs.Board.{Board}
use Rattle.action.specs.Operations.{result_or_raises}
use Rattle.semantics.specs.Meaning.{add_immediates, arithmetic, meaning}

-- what is read, with the immediate in rB's place
abbrev pub immediate_as_b : Inputs → Inputs
immediate_as_b x = record {
  core = x.core;
  d = x.d;
  a = x.a;
  b = x.immediate;
  immediate = x.immediate;
  flow = x.flow;
  sr = x.sr;
  epcr = x.epcr;
  eear = x.eear;
  esr = x.esr;
  link = x.link;
  accumulator = x.accumulator;
  picmr = x.picmr;
  picsr = x.picsr;
}

module _ (board : Board) (mem : List ℕ) (x : Inputs) where
  pub addi_as_add : meaning board mem 23 x ≡ meaning board mem 48 (immediate_as_b x)
  unfolding meaning add_immediates arithmetic result_or_raises advances onward raises restart
  addi_as_add = refl

  pub addic_as_addc : meaning board mem 24 x ≡ meaning board mem 49 (immediate_as_b x)
  unfolding meaning add_immediates arithmetic result_or_raises advances onward raises restart
  addic_as_addc = refl
