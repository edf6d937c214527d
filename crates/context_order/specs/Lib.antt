pub mod LinkLength
