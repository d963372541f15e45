-- What the export of the tables asks and leaves.
pub mod Tables
