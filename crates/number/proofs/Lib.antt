pub mod PkgLengthExact
