mod MachineRows
mod OrderRows
