-- `claim_maker::field_power` meets its contract: the last row as coefficients, one squaring more, and z added.
-- Assumes nothing.
use mathlib.Core.Path.{refl}
use Rattle.claims.proofs.Weighing.{remain-asks}
use Rattle.claim_maker.proofs.Powering.{power-residual, power-some, power-logs, power-degree, power-within, power-adds, power-squares, power-two, power-is}
use Rattle.claim_maker.proofs.field_power.Goals as goal

pub make_monic-d-requires : goal.make_monic-d-requires
make_monic-d-requires c = remain-asks c.args.tables.now.lent (power-residual c.args.tables.now.lent c.requires c.copy.ensures) c.copy.ensures

pub log_row-requires : goal.log_row-requires
log_row-requires c = power-logs c.args.tables.now.lent c.requires c.copy.ensures c.make_monic-d.ensures

pub add_row-requires : goal.add_row-requires
add_row-requires c = power-adds c.args.tables.now.lent c.requires c.copy.ensures c.make_monic-d.ensures refl

pub power_mod-requires : goal.power_mod-requires
power_mod-requires c = power-squares c.args.tables.now.lent c.requires c.copy.ensures c.make_monic-d.ensures refl c.add_row.ensures c.log_row.ensures _

pub bounds-b-1 : goal.bounds-b-1
bounds-b-1 c = power-two c.args.tables.now.lent c.requires c.copy.ensures c.make_monic-d.ensures refl c.add_row.ensures c.log_row.ensures _ c.power_mod.ensures

pub bounds-b-1-2 : goal.bounds-b-1-2
bounds-b-1-2 c = power-two c.args.tables.now.lent c.requires c.copy.ensures c.make_monic-d.ensures refl c.add_row.ensures c.log_row.ensures _ c.power_mod.ensures

pub returns : goal.returns
returns c = power-is c.args.tables.now.lent c.requires c.copy.ensures c.make_monic-d.ensures refl c.add_row.ensures c.log_row.ensures _ c.power_mod.ensures

pub overflow_sub-d : goal.overflow_sub-d
overflow_sub-d c = power-some c.args.tables.now.lent c.requires c.copy.ensures c.make_monic-d.ensures

pub overflow_sub-at : goal.overflow_sub-at
overflow_sub-at c = power-degree c.args.tables.now.lent c.requires c.copy.ensures c.make_monic-d.ensures

pub slice_bounds-add_row-end : goal.slice_bounds-add_row-end
slice_bounds-add_row-end c = power-within c.args.tables.now.lent c.requires c.copy.ensures c.make_monic-d.ensures
