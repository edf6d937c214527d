pub mod Origins
pub mod Trail
